use Rattle.std.proofs.Common.{List, ◌++◌, length, map, All, ◌≡◌, true, ◌<◌}
use Rattle.std.specs.List.{AllZip}
use Rattle.std.specs.Vec.Iter.{into_iter_items}
use Rattle.pb_place_types.specs.Paths.{is_relative}
use Rattle.pb_graph.specs.declared.graph.Step.{Step}
use Rattle.pb_profile.specs.Line.{seen}
use Rattle.pb_unit.specs.declared.plan.Planned.{Planned}
use Rattle.pb_unit.specs.Drawing.{IsPlannedFrom}
use Rattle.pb_unit.proofs.plan.all_made.Given as goal

abbrev pub invariant-loop-step : goal.invariant-loop-step
invariant-loop-step l = record {
  nodes : All (λ (s : Step). s.node < length l.units) (into_iter_items l.step-iterator);
  names : All (λ (s : Step). is_relative s.key ≡ true) (into_iter_items l.step-iterator);
  made : (rest : List Planned) → AllZip (IsPlannedFrom l.workspace (map seen l.frame.line.items) l.frame.folder l.units) (into_iter_items l.step-iterator) rest
      → AllZip (IsPlannedFrom l.workspace (map seen l.frame.line.items) l.frame.folder l.units) l.fn.steps.items (l.planned.items ++ rest);
}
