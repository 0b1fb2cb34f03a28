use Rattle.std.proofs.Common.{◌≡◌, ◌++◌, drop, map}
use Rattle.pb_unit.specs.declared.plan.Planned.{Planned}
use Rattle.pb_build_turns.proofs.turns.needs_of.Given as goal

abbrev pub invariant-loop-unit : goal.invariant-loop-unit
invariant-loop-unit l = l.needs ++ map (λ (u : Planned). u.needs) (drop l.unit-index l.units) ≡ map (λ (u : Planned). u.needs) l.units
