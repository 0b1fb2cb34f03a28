use Rattle.std.proofs.Common.{◌≡◌, None, take, map}
use Rattle.pb_unit.specs.declared.plan.Planned.{Planned}
use Rattle.pb_build_turns.proofs.turns.nothing_noted.Given as goal

abbrev pub invariant-loop : goal.invariant-loop
invariant-loop g l = l.noted.items ≡ map (λ (u : Planned). None) (take l.index l.units)
