use Rattle.std.proofs.Common.{ap, ◌∙◌, refl, rules, subst}
use Rattle.pb_workspace_types.specs.declared.fault.LoadFault.TheVariants.{OutOfMemory}
use Rattle.pb_workspace_package.proofs.Looking.{looks_none}
use Rattle.pb_place_types.specs.World.{from_nothing}
use Rattle.pb_workspace.proofs.LookingOver.{looks_step, looks_stop}
use Rattle.pb_workspace_package.proofs.Steps.{quiet_step, told_step}
use Rattle.pb_place_types.specs.Paths.{folder_of}
use Rattle.pb_workspace_package.specs.Causes.{UnlessFailed}
use Rattle.pb_workspace.specs.Frames.{frame_of}
use Rattle.pb_workspace.specs.Loaded.{root_parts, workspace_in, workspace_of}
use Rattle.pb_workspace.specs.LookedAt.{looked_at, packages_looked, root_looked}
use Rattle.pb_workspace_package.specs.Looks.{Looks}
use Rattle.pb_workspace.proofs.loading.load.Goals as goal

pub returns-clause-ok : goal.returns-clause-ok
unfolding workspace_of
returns-clause-ok g c told =
    told_step (λ w parts. workspace_in (from_nothing c.args.target.now w) c.args.target.now (frame_of (folder_of c.args.manifest.now) c.args.manifest.now parts.workspace) parts.profiles parts.tables parts.found) _ _ _ _ _
    (c.in_ok-parts.ensures.ok told) (c.in_ok-parts.ensures.quiet.world)
    (subst (λ f. UnlessFailed c.workspace_in-loaded.result (workspace_in (from_nothing c.args.target.now (g.P.Place.at c.root_parts.new.place).world) c.args.target.now f c.in_ok-parts.parts.profiles c.in_ok-parts.parts.tables c.in_ok-parts.parts.found))
    (c.frame_of-frame.ensures ∙ ap (λ root. frame_of root c.in_ok-path.path c.in_ok-parts.parts.workspace) c.in_ok-root.ensures ∙ ap (λ path. frame_of (folder_of c.args.manifest.now) path c.in_ok-parts.parts.workspace) c.in_ok-path.ensures)
    (c.workspace_in-loaded.ensures.ok told))

pub returns-clause-quiet : goal.returns-clause-quiet
returns-clause-quiet g c = quiet_step c.in_ok-parts.parts c.workspace_in-loaded.result _ _ _ c.in_ok-parts.ensures.quiet c.workspace_in-loaded.ensures.quiet

pub returns-clause-looks : goal.returns-clause-looks
unfolding looked_at
returns-clause-looks g c told =
    looks_step c.workspace_in-loaded.result
    (λ w parts. packages_looked c.args.target.now (from_nothing c.args.target.now w) (frame_of (folder_of c.args.manifest.now) c.args.manifest.now parts.workspace) parts.tables parts.found)
    (λ w. root_parts (from_nothing c.args.target.now w) c.args.manifest.now) (λ w. root_looked c.args.target.now c.args.manifest.now) c.in_ok-parts.parts
    (g.P.Place.at c.args.place.now).world (g.P.Place.at c.args.place.now).world (g.P.Place.at c.root_parts.new.place).world
    (g.P.Place.at c.args.place.now).counts (g.P.Place.at c.root_parts.new.place).counts (g.P.Place.at c.workspace_in-loaded.new.place).counts
    refl (c.in_ok-parts.ensures.quiet.world) (c.in_ok-parts.ensures.ok told) c.in_ok-parts.ensures.looks
    (subst (λ f. Looks c.workspace_in-loaded.result (packages_looked c.args.target.now (from_nothing c.args.target.now (g.P.Place.at c.root_parts.new.place).world) f c.in_ok-parts.parts.tables c.in_ok-parts.parts.found) (g.P.Place.at c.root_parts.new.place).counts (g.P.Place.at c.workspace_in-loaded.new.place).counts)
    (c.frame_of-frame.ensures ∙ ap (λ root. frame_of root c.in_ok-path.path c.in_ok-parts.parts.workspace) c.in_ok-root.ensures ∙ ap (λ path. frame_of (folder_of c.args.manifest.now) path c.in_ok-parts.parts.workspace) c.in_ok-path.ensures)
    (c.workspace_in-loaded.ensures.looks told))

pub returns-in_err-root-clause-looks : goal.returns-in_err-root-clause-looks
returns-in_err-root-clause-looks g c told =
    let h = looks_none OutOfMemory (looked_at c.args.manifest.now c.args.target.now (g.P.Place.at c.args.place.now).world) (g.P.Place.at c.args.place.now).counts (g.P.Place.at c.args.place.now).counts refl refl refl in
    search (rules, h)

pub returns-in_err-path-clause-looks : goal.returns-in_err-path-clause-looks
returns-in_err-path-clause-looks g c told =
    let h = looks_none OutOfMemory (looked_at c.args.manifest.now c.args.target.now (g.P.Place.at c.args.place.now).world) (g.P.Place.at c.args.place.now).counts (g.P.Place.at c.args.place.now).counts refl refl refl in
    search (rules, h)

pub returns-in_err-parts-clause-looks : goal.returns-in_err-parts-clause-looks
unfolding looked_at
returns-in_err-parts-clause-looks g c told =
    let h = looks_stop c.in_err-parts.field-0.0
    (λ w parts. packages_looked c.args.target.now (from_nothing c.args.target.now w) (frame_of (folder_of c.args.manifest.now) c.args.manifest.now parts.workspace) parts.tables parts.found)
    (λ w. root_parts (from_nothing c.args.target.now w) c.args.manifest.now) (λ w. root_looked c.args.target.now c.args.manifest.now) (g.P.Place.at c.args.place.now).world (g.P.Place.at c.args.place.now).world (g.P.Place.at c.args.place.now).counts (g.P.Place.at c.root_parts.new.place).counts refl (c.in_err-parts.ensures.ok told) c.in_err-parts.ensures.looks in
    search (rules, h)
