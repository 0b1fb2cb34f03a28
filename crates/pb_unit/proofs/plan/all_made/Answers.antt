use Rattle.std.proofs.Common.{◌≡◌, ◌<◌, true, length, map}
use Rattle.std.proofs.Common.{append-nil, arith}
use Rattle.std.specs.Vec.Iter.{into_iter_items}
use Rattle.std.proofs.lemmas.List.{nil_from_length}
use Rattle.pb_place_types.specs.Paths.{is_relative}
use Rattle.pb_graph.specs.declared.graph.Step.{Step}
use Rattle.pb_profile.specs.Line.{seen}
use Rattle.pb_unit.specs.Drawing.{IsPlannedFrom}
use Rattle.pb_unit.proofs.Making.{rest_all, first_all, one_made, all_made}
use Rattle.pb_unit.proofs.plan.all_made.Goals as goal

pub planned_unit-requires-clause-node : goal.planned_unit-requires-clause-node
planned_unit-requires-clause-node c = first_all (λ (s : Step). s.node < length c.args.units.now) _ _ _ c.in-Some.ensures.steps.0 c.loop-step.invariant.nodes

pub planned_unit-requires-clause-name : goal.planned_unit-requires-clause-name
planned_unit-requires-clause-name c = first_all (λ (s : Step). is_relative s.key ≡ true) _ _ _ c.in-Some.ensures.steps.0 c.loop-step.invariant.names

pub loop-step-preserved : goal.loop-step-preserved
loop-step-preserved c = record {
  nodes = rest_all (λ (s : Step). s.node < length c.args.units.now) _ _ _ c.in-Some.ensures.steps.0 c.loop-step.invariant.nodes;
  names = rest_all (λ (s : Step). is_relative s.key ≡ true) _ _ _ c.in-Some.ensures.steps.0 c.loop-step.invariant.names;
  made = one_made (IsPlannedFrom c.args.workspace.now (map seen c.args.frame.now.line.items) c.args.frame.now.folder c.args.units.now) _ _ _ _ _ _ _ c.in-Some.ensures.steps.0 c.in_ok-push.ensures.items c.in_ok-planned_unit.ensures c.loop-step.invariant.made;
}

pub returns : goal.returns
returns c =
    let none : length (into_iter_items c.loop-step.step-iterator) ≡ 0 = omega (arith, c.in-None.ensures.steps.0) in
    all_made (IsPlannedFrom c.args.workspace.now (map seen c.args.frame.now.line.items) c.args.frame.now.folder c.args.units.now) _ _ _ (nil_from_length (into_iter_items c.loop-step.step-iterator) none) (append-nil _) c.loop-step.invariant.made
