use Rattle.std.proofs.lemmas.List.{append_assoc}
use Rattle.pb_record.proofs.recorded_command.write_paths.Goals as goal

pub returns-clause-written : goal.returns-clause-written
returns-clause-written c = rw (c.in_ok-write-4.ensures.written, c.in_ok-write-3.ensures.written, c.in_ok-write-2.ensures.written, c.in_ok-write.ensures.written) (simp append_assoc)
