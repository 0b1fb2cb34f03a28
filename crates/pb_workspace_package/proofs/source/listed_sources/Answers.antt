use Rattle.std.proofs.Common.{◌∙◌, ℕ, Err, ap, subst, sym}
use Rattle.pb_place_types.specs.declared.call.Call.TheVariants as call
use Rattle.pb_workspace_package.proofs.Failed.{call_looks, call_reads, from_outside, of_list}
use Rattle.pb_workspace_package.proofs.Looking.{Ends}
use Rattle.pb_workspace_package.specs.Causes.{fault_at, is_outside, ReadsOnly}
use Rattle.pb_workspace_package.specs.Looks.{looked}
use Rattle.pb_workspace_package.proofs.source.listed_sources.Goals as goal

pub returns-in-Err-clause-outside : goal.returns-in-Err-clause-outside
returns-in-Err-clause-outside g c = ap is_outside c.call_fault.ensures ∙ from_outside c.in_ok-named.named c.in-Err.fault

pub returns-in-Err-clause-quiet : goal.returns-in-Err-clause-quiet
returns-in-Err-clause-quiet g c = record {
  world = c.in-Err.ensures.looks.world;
  most = c.in-Err.ensures.looks.most;
  still = c.in-Err.ensures.looks.still;
  reads = subst (λ e. ReadsOnly {T = ℕ} (Err e) (g.P.Place.at c.args.place.now).counts (g.P.Place.at c.list_outside.new.self).counts) (sym (c.call_fault.ensures ∙ ap (λ p. fault_at p c.in-Err.fault) c.in_ok-named.ensures))
      (call_reads (call.ListOutside c.args.folder.now c.args.target.now) _ _ c.in-Err.fault (of_list c.args.folder.now c.in-Err.fault c.in-Err.ensures.looks.fault) c.in-Err.ensures.looks.counts);
}

pub returns-in-Err-clause-looks : goal.returns-in-Err-clause-looks
returns-in-Err-clause-looks g c =
    subst (λ e. Ends e (looked c.args.target.now (call.ListOutside c.args.folder.now c.args.target.now)) (g.P.Place.at c.args.place.now).counts (g.P.Place.at c.list_outside.new.self).counts) (sym (c.call_fault.ensures ∙ ap (λ p. fault_at p c.in-Err.fault) c.in_ok-named.ensures))
    (call_looks (call.ListOutside c.args.folder.now c.args.target.now) _ _ c.args.target.now c.in-Err.fault (sym c.starts_with.ensures ∙ c.if-starts_with.false) c.in-Err.ensures.looks.fault c.in-Err.ensures.looks.counts)
