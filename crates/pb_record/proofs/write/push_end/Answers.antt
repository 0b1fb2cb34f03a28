use Rattle.std.proofs.lemmas.List.{append_assoc}
use Rattle.pb_record.proofs.write.push_end.Goals as goal

pub returns : goal.returns
returns c = rw (c.in_ok-extend_from_slice.ensures.items, c.in_ok-write-2.ensures.written, c.in_ok-write.ensures.written) (simp append_assoc)
