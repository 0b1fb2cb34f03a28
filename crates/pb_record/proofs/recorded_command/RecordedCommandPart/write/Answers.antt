use Rattle.std.proofs.lemmas.List.{append_assoc}
use Rattle.pb_record.proofs.recorded_command.RecordedCommandPart.write.Goals as goal

pub returns-clause-written : goal.returns-clause-written
returns-clause-written c = rw (c.in_ok-write_paths.ensures.written, c.in_ok-write_command.ensures.written) (simp append_assoc)
