use Rattle.std.proofs.Common.{◌≡◌}
use Rattle.pb_run.specs.Invariants.{records_folder}
use Rattle.pb_tests_builds.proofs.units.steps.make_steps.Given as goal

abbrev pub invariant-loop-line : goal.invariant-loop-line
invariant-loop-line l = l.bench.store.folder ≡ records_folder l.project
