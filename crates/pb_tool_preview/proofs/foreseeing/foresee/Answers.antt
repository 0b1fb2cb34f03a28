use Rattle.std.proofs.Common.{ℕ, Ok, arith}
use Rattle.pb_tool_preview.proofs.Looking.{looks_none, looks_then, looks_well}
use Rattle.pb_tool_preview.proofs.Taking.{none_yet, one_more_as, unit_there}
use Rattle.pb_tool_preview.proofs.foreseeing.foresee.Goals as goal

pub loop-index-init : goal.loop-index-init
loop-index-init g c = record {
  quiet = looks_none (g.P.Place.at c.args.place.now);
  fates = λ told. none_yet c.args.setup.now c.args.project.now (g.P.Place.at c.args.place.now).world c.new-fates.result.items c.new-done.result.items c.new-fates.ensures.items c.new-done.ensures.items;
}

pub fate_of-seen-requires-clause-unit : goal.fate_of-seen-requires-clause-unit
fate_of-seen-requires-clause-unit g c = unit_there c.args.project.now.plan.planned c.units-units.result.now c.loop-index.index c.index-units-index.result c.units-units.ensures (omega arith) c.index-units-index.is

pub returns-in-Err-append-clause-fault : goal.returns-in-Err-append-clause-fault
returns-in-Err-append-clause-fault g c =
    (c.loop-index.index, c.index-units-index.result, unit_there c.args.project.now.plan.planned c.units-units.result.now c.loop-index.index c.index-units-index.result c.units-units.ensures (omega arith) c.index-units-index.is, tt)

pub loop-index-preserved : goal.loop-index-preserved
loop-index-preserved g c = record {
  quiet = looks_then {T = ℕ} (Ok 0) (g.P.Place.at c.args.place.now) (g.P.Place.at c.loop-index.place) (g.P.Place.at c.fate_of-seen.new.place) c.loop-index.invariant.quiet
      (looks_well c.in-Ok.seen 0 (g.P.Place.at c.loop-index.place) (g.P.Place.at c.fate_of-seen.new.place) c.in-Ok.ensures.quiet);
  fates = λ told. one_more_as c.args.setup.now c.args.project.now (g.P.Place.at c.args.place.now).world (g.P.Place.at c.loop-index.place).world c.units-units.result.now c.loop-index.index c.index-units-index.result
      c.loop-index.fates.items c.as_slice.result.now c.append.new.fates.items c.loop-index.done.items c.as_slice-in-loop-index.result.now c.append.new.done.items c.in-Ok.seen.0 c.in-Ok.seen.1
      (omega arith) c.index-units-index.is c.loop-index.invariant.quiet.world c.as_slice.ensures.value c.as_slice-in-loop-index.ensures.value
      c.in-Ok-append.ensures.fates c.in-Ok-append.ensures.done (c.loop-index.invariant.fates told) (c.in-Ok.ensures.fate told);
}
