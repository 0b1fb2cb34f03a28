use Rattle.std.proofs.Common.{◌≡◌, ◌++◌, drop}
use Rattle.pb_build_turns.specs.Executor.{indices_of}
use Rattle.pb_build_turns.proofs.executor.indices_of.Given as goal

abbrev pub invariant-loop-one : goal.invariant-loop-one
invariant-loop-one l = l.indices.items ++ indices_of (drop l.one-index l.running) ≡ indices_of l.running
