use Rattle.pb_record.proofs.WholeLemmas.{pieces_numbered, pieces_copied}
use Rattle.pb_record.proofs.write.write_record_pieces.Goals as goal

pub returns-in-Numbers : goal.returns-in-Numbers
returns-in-Numbers c = pieces_numbered c.args.kept c.in-Numbers.own c.in-Numbers.needs c.pieces_of.result c.in-Numbers.is c.pieces_of.ensures

pub returns-in-Copies : goal.returns-in-Copies
returns-in-Copies c = pieces_copied c.args.kept c.in-Copies.copies c.pieces_of-in-Copies.result c.in-Copies.is c.pieces_of-in-Copies.ensures
