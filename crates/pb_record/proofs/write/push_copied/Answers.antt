use Rattle.std.proofs.lemmas.List.{append_assoc}
use Rattle.pb_record.proofs.write.push_copied.Goals as goal

pub returns-clause-written : goal.returns-clause-written
returns-clause-written c = rw (c.in_ok-push_end.ensures, c.in_ok-write.ensures.written, c.in_ok-push_front.ensures.written, c.in_ok-extend_from_slice.ensures.items) (simp append_assoc)
