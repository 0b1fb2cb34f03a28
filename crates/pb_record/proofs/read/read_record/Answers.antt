use Rattle.pb_record.proofs.LawLemmas.{read_so}
use Rattle.pb_record.proofs.WholeLemmas.{reads}
use Rattle.pb_record.proofs.read.read_record.Goals as goal

pub returns-clause-reads : goal.returns-clause-reads
returns-clause-reads c = reads c.args.text.now c.in_ok-found.found c.in_ok-found.ensures

pub returns-clause-found : goal.returns-clause-found
returns-clause-found c = read_so c.args.text.now c.in_ok-found.found (reads c.args.text.now c.in_ok-found.found c.in_ok-found.ensures)
