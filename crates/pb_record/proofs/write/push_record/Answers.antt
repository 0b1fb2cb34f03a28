use Rattle.pb_record.proofs.WholeLemmas.{written_by}
use Rattle.pb_record.proofs.write.push_record.Goals as goal

pub returns-in_ok-push_numbered-in-Numbers-clause-written : goal.returns-in_ok-push_numbered-in-Numbers-clause-written
returns-in_ok-push_numbered-in-Numbers-clause-written c =
    written_by c.args.kept.now _ c.args.out.now.items c.push_numbered.new.out.items c.in-Numbers.is c.in_ok-push_numbered-in-Numbers.ensures.written

pub returns-in_ok-push_copied-in-Copies-clause-written : goal.returns-in_ok-push_copied-in-Copies-clause-written
returns-in_ok-push_copied-in-Copies-clause-written c =
    written_by c.args.kept.now _ c.args.out.now.items c.push_copied.new.out.items c.in-Copies.is c.in_ok-push_copied-in-Copies.ensures.written
