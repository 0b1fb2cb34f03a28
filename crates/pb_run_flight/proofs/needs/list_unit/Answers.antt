use Rattle.std.proofs.Common.{◌≡◌, ◌<◌, ◌∙◌, sym, subst, arith, length, Contains}
use Rattle.std.specs.Prelude.{slice_index}
use borrow.Author.Count.{below_more}
use Rattle.pb_run_flight.specs.Working.{units_at}
use Rattle.pb_run_flight.proofs.Listing.{any_default}
use Rattle.pb_run_flight.proofs.needs.list_unit.Goals as goal

pub loop-need-preserved : goal.loop-need-preserved
loop-need-preserved c = record {
  long = c.list_at.ensures.long ∙ c.loop-need.invariant.long;
  listed = below_more (λ k. slice_index c.args.needs.now k < length c.args.lists.now.items → Contains (units_at c.list_at.new.lists.items (slice_index c.args.needs.now k)) c.args.unit) c.loop-need.need-index
      (λ k lt within. c.list_at.ensures.kept c.args.unit (slice_index c.args.needs.now k) (c.loop-need.invariant.listed k lt within))
      (λ within. c.in_ok-list_at.ensures.listed (omega (arith, within, c.loop-need.invariant.long)));
  kept = λ u v h. c.list_at.ensures.kept u v (c.loop-need.invariant.kept u v h);
}

pub returns-clause-listed : goal.returns-clause-listed
returns-clause-listed c = λ v (k, lt, at) within.
    let e : slice_index c.args.needs.now k ≡ v = any_default c.args.needs.now k 0 v lt (sym at) in
    subst (λ w. Contains (units_at c.loop-need.lists.items w) c.args.unit) e (c.loop-need.invariant.listed k (omega (arith, lt, c.loop-need-test.false)) (subst (λ w. w < length c.args.lists.now.items) (sym e) within))
