use Rattle.std.proofs.Common.{refl, ◌∙◌, rules}
use Rattle.pb_place_types.proofs.Wholes.{told_none, told_rest, told_some}
use Rattle.pb_place_types.proofs.whole.write_all.Goals as goal

pub loop-rest-init : goal.loop-rest-init
loop-rest-init g c = record { told = told_none _ _; faults = refl }

pub loop-rest-preserved : goal.loop-rest-preserved
loop-rest-preserved g c = record {
  told = told_rest _ _ _ _ _ _ c.loop-rest.invariant.told c.in-Some.ensures.took.2;
  faults = c.in-Some.ensures.faults ∙ c.loop-rest.invariant.faults;
}

pub returns-in-None-clause-part : goal.returns-in-None-clause-part
returns-in-None-clause-part g c = λ failed. told_some _ _ _ _ _ c.loop-rest.invariant.told (search rules) c.in-None.ensures.took
