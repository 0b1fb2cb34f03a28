use Rattle.std.proofs.lemmas.List.{append_assoc}
use Rattle.pb_record.proofs.inputs.write_behind.Goals as goal

pub returns-clause-written : goal.returns-clause-written
returns-clause-written g c = rw (c.in_ok-write-2.ensures.written, c.in_ok-write.ensures.written, c.in_ok-extend_from_slice.ensures.items) (simp append_assoc)
