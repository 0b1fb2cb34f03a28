use Rattle.std.proofs.Common.{◌≡◌, ◌∙◌, [], ◌∷◌, codes, ap, refl, rules, subst}
use Rattle.std.specs.List.{flat_map}
use Rattle.std.specs.Prelude.{filter}
use Rattle.pb_place_types.specs.CallsInTurn.{past_calls}
use Rattle.pb_place_types.specs.World.{from_nothing}
use Rattle.pb_workspace_types.specs.declared.fault.LoadFault.TheVariants.{OutOfMemory}
use Rattle.pb_workspace_package.proofs.Looking.{Ends, ends_both, looks_both, looks_first, looks_none}
use Rattle.pb_workspace_package.specs.Looks.{Looks}
use Rattle.pb_workspace.specs.LookedAt.{glob_looked, manifest_looked, walk_looked}
use Rattle.pb_workspace.specs.MemberFolders.{folders_kept, is_kept, led_to}
use Rattle.pb_workspace.proofs.member_folders.folders_taken.Goals as goal

pub returns-in_err-begun-clause-looks : goal.returns-in_err-begun-clause-looks
returns-in_err-begun-clause-looks g c told =
    let sources = from_nothing c.args.target.now (g.P.Place.at c.args.place.now).world in
    let counts = (g.P.Place.at c.args.place.now).counts in
    let h = looks_none OutOfMemory (glob_looked c.args.target.now sources c.args.frame.now c.args.parts.now) counts counts refl refl refl in
    search (rules, h)

pub returns-in_err-led-clause-looks : goal.returns-in_err-led-clause-looks
returns-in_err-led-clause-looks g c told =
    let sources = from_nothing c.args.target.now (g.P.Place.at c.args.place.now).world in
    let walked = walk_looked c.args.target.now sources c.args.frame.now c.args.parts.now (codes "/" ∷ []) in
    let manifests = flat_map (manifest_looked c.args.target.now) (folders_kept sources c.args.frame.now c.args.parts.now) in
    let old = (g.P.Place.at c.args.place.now).counts in
    let mid = (g.P.Place.at c.led_to.new.place).counts in
    let h = looks_first c.in_err-led.field-0.0 walked manifests old mid c.in_err-led.ensures.outside (subst (λ fs. Ends c.in_err-led.field-0.0 (walk_looked c.args.target.now sources c.args.frame.now c.args.parts.now fs) old mid) c.in_ok-begun.ensures (c.in_err-led.ensures.looks told)) in
    search (rules, h)

pub returns-in_err-kept-clause-looks : goal.returns-in_err-kept-clause-looks
returns-in_err-kept-clause-looks g c told =
    let sources = from_nothing c.args.target.now (g.P.Place.at c.args.place.now).world in
    let walked = walk_looked c.args.target.now sources c.args.frame.now c.args.parts.now (codes "/" ∷ []) in
    let manifests = flat_map (manifest_looked c.args.target.now) (folders_kept sources c.args.frame.now c.args.parts.now) in
    let old = (g.P.Place.at c.args.place.now).counts in
    let mid = (g.P.Place.at c.led_to.new.place).counts in
    let h = ends_both OutOfMemory walked manifests old mid mid (subst (λ fs. mid ≡ past_calls (walk_looked c.args.target.now sources c.args.frame.now c.args.parts.now fs) old) c.in_ok-begun.ensures (c.in_ok-led.ensures.looks told)) (looks_none OutOfMemory manifests mid mid refl refl refl) in
    search (rules, h)

pub returns-clause-looks : goal.returns-clause-looks
returns-clause-looks g c told =
    let sources = from_nothing c.args.target.now (g.P.Place.at c.args.place.now).world in
    let walked = walk_looked c.args.target.now sources c.args.frame.now c.args.parts.now (codes "/" ∷ []) in
    let manifests = flat_map (manifest_looked c.args.target.now) (folders_kept sources c.args.frame.now c.args.parts.now) in
    let old = (g.P.Place.at c.args.place.now).counts in
    let mid = (g.P.Place.at c.led_to.new.place).counts in
    looks_both c.with_manifests.result walked manifests old mid (g.P.Place.at c.with_manifests.new.place).counts
    (subst (λ fs. mid ≡ past_calls (walk_looked c.args.target.now sources c.args.frame.now c.args.parts.now fs) old) c.in_ok-begun.ensures (c.in_ok-led.ensures.looks told))
    (subst (λ fs. Looks c.with_manifests.result (flat_map (manifest_looked c.args.target.now) fs) mid (g.P.Place.at c.with_manifests.new.place).counts)
    (c.in_ok-kept.ensures ∙ ap (filter (is_kept c.args.frame.now)) (c.in_ok-led.ensures.ok told ∙ ap (led_to sources c.args.frame.now c.args.parts.now) c.in_ok-begun.ensures)) c.with_manifests.ensures.looks)
