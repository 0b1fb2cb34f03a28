use Rattle.std.proofs.Common.{◌∙◌, ap, rules, subst, sym}
use Rattle.std.specs.FinMap as finite
use Rattle.pb_workspace_package.specs.Causes.{UnlessFailed}
use Rattle.pb_manifest_types.specs.declared.manifest.Manifest.{Manifest}
use Rattle.pb_place_types.specs.World.{from_nothing}
use Rattle.pb_workspace.specs.Rounds.{read_found}
use Rattle.pb_workspace.proofs.Cut.{found_cut}
use Rattle.pb_workspace.proofs.rounds.manifest_at.Goals as goal

pub returns-in_err-manifest-clause-ok : goal.returns-in_err-manifest-clause-ok
returns-in_err-manifest-clause-ok g c is_modelled =
    subst (λ answer. UnlessFailed {A = Manifest} c.from_residual-in_err-manifest.result answer)
    (ap (read_found c.args.path.now) (c.in_ok-found.ensures.ok is_modelled) ∙ found_cut c.args.path.now (finite.get (from_nothing c.args.target.now (g.P.Place.at c.args.place.now).world).files c.args.path.now))
    (search rules)

pub returns-clause-ok : goal.returns-clause-ok
returns-clause-ok g c is_modelled =
    sym (found_cut c.args.path.now (finite.get (from_nothing c.args.target.now (g.P.Place.at c.args.place.now).world).files c.args.path.now))
    ∙ ap (read_found c.args.path.now) (sym (c.in_ok-found.ensures.ok is_modelled))
    ∙ c.in_ok-manifest.ensures.told
