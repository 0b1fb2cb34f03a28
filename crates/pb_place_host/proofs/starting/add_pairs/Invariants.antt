use Rattle.std.proofs.Common.{◌≡◌, ℕ, List, drop}
use Rattle.std.specs.Process.{command_var, clears_env, SameProgramAndArgs, SameDir}
use Rattle.pb_place_host.specs.Starting.{value_over}
use Rattle.pb_place_host.proofs.starting.add_pairs.Given as goal

abbrev pub invariant-loop-name : goal.invariant-loop-name
invariant-loop-name l = record {
  pairs : (name : List ℕ) → value_over name (command_var l.made name) (drop l.name-index l.pairs) ≡ value_over name (command_var l.fn.made name) l.pairs;
  call : SameProgramAndArgs l.fn.made l.made;
  inherits : clears_env l.made ≡ clears_env l.fn.made;
  folder : SameDir l.fn.made l.made;
}
