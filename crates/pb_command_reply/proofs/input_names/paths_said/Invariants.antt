use Rattle.std.proofs.Common.{◌≡◌, ◌++◌, drop, IsTrue}
use Rattle.std.specs.List.{flat_map}
use Rattle.pb_command_reply.specs.Answers.{path_said}
use Rattle.pb_command_reply.proofs.input_names.paths_said.Given as goal

abbrev pub invariant-loop-text : goal.invariant-loop-text
invariant-loop-text g l = IsTrue g.M.Meaning.joins → l.paths ++ flat_map (path_said l.folder) (drop l.text-index l.texts) ≡ flat_map (path_said l.folder) l.texts
