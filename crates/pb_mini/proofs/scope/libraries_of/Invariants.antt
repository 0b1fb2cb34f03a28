use Rattle.std.proofs.Common.{◌≡◌, map, drop}
use Rattle.pb_mini.specs.Scope.{library_of, with_firsts, libraries_of}
use Rattle.pb_mini.proofs.scope.libraries_of.Given as goal

abbrev pub invariant-loop-written : goal.invariant-loop-written
invariant-loop-written l = with_firsts l.libraries (map library_of (drop l.written-index l.externs)) ≡ libraries_of l.externs
