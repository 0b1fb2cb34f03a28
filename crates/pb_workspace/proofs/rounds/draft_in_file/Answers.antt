use Rattle.std.proofs.Common.{rules}
use Rattle.pb_place_types.specs.declared.call.Call.TheVariants as call
use Rattle.pb_place_types.specs.World.{from_nothing}
use Rattle.pb_workspace_package.proofs.Looking.{looks_no_further, looks_then}
use Rattle.pb_workspace_package.proofs.Steps.{quiet_step, told_step}
use Rattle.pb_workspace.specs.LookedAt.{file_looked, package_looked}
use Rattle.pb_workspace_package.specs.Looks.{looked}
use Rattle.pb_workspace.specs.Rounds.{draft_if, draft_in_file, parts_at}
use Rattle.pb_workspace.proofs.rounds.draft_in_file.Goals as goal

pub returns-clause-ok : goal.returns-clause-ok
unfolding draft_in_file
returns-clause-ok g c told =
    told_step (λ w parts. draft_if (from_nothing c.args.target.now w) c.args.frame.now c.args.is_member c.args.at parts.tables parts.found) _ _ _ _ _
    (c.in_ok-parts.ensures.ok told) (c.in_ok-parts.ensures.quiet.world) (c.draft_if.ensures.ok told)

pub returns-clause-quiet : goal.returns-clause-quiet
returns-clause-quiet g c = quiet_step c.in_ok-parts.parts c.draft_if.result _ _ _ c.in_ok-parts.ensures.quiet c.draft_if.ensures.quiet

pub returns-clause-looks : goal.returns-clause-looks
unfolding file_looked
returns-clause-looks g c told =
    looks_then c.draft_if.result (parts_at (from_nothing c.args.target.now (g.P.Place.at c.args.place.now).world) c.args.at.manifest) c.in_ok-parts.parts (λ parts. package_looked c.args.target.now c.args.at.folder parts.found) (looked c.args.target.now (call.Read c.args.at.manifest)) _ _ _
    (c.in_ok-parts.ensures.ok told) c.in_ok-parts.ensures.looks c.draft_if.ensures.looks

pub returns-in_err-parts-clause-looks : goal.returns-in_err-parts-clause-looks
unfolding file_looked
returns-in_err-parts-clause-looks g c told =
    let h = looks_no_further c.in_err-parts.field-0.0 (parts_at (from_nothing c.args.target.now (g.P.Place.at c.args.place.now).world) c.args.at.manifest) (λ parts. package_looked c.args.target.now c.args.at.folder parts.found) (looked c.args.target.now (call.Read c.args.at.manifest)) (g.P.Place.at c.args.place.now).counts (g.P.Place.at c.parts_at.new.place).counts
    (c.in_err-parts.ensures.ok told) c.in_err-parts.ensures.looks in
    search (rules, h)
