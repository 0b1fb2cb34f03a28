use Rattle.std.proofs.Common.{◌∙◌, sym, subst, Contains}
use Rattle.pb_run_flight.proofs.Listing.{listed_more}
use Rattle.pb_run_flight.proofs.needs.needed_by.Goals as goal

pub loop-unit-preserved : goal.loop-unit-preserved
loop-unit-preserved c = record {
  long = c.list_unit.ensures.long ∙ c.loop-unit.invariant.long;
  listed = listed_more c.args.needs.now c.loop-unit.unit c.index-needs-unit.result c.loop-unit.lists.items c.list_unit.new.lists.items c.loop-unit-test.true c.index-needs-unit.is c.loop-unit.invariant.listed c.list_unit.ensures.long
      (λ v h within. c.in_ok-list_unit.ensures.listed v (subst (λ xs. Contains xs v) (sym c.as_slice.ensures) h) within) c.list_unit.ensures.kept;
}
