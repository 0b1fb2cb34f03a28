use Rattle.std.proofs.Common.{◌≡◌, ◌∙◌, ℕ, List, Ok, Err, ap, arith, length, refl, rules, subst, sym}
use Rattle.std.specs.List.{flat_map}
use Rattle.std.specs.Vec.Iter.{into_iter_items}
use Rattle.pb_place_types.specs.CallsInTurn.{past_calls}
use Rattle.pb_place_types.specs.World.{from_nothing}
use Rattle.pb_workspace_types.specs.declared.fault.LoadFault.TheVariants.{OutOfMemory}
use Rattle.pb_workspace_package.proofs.Looking.{looks_none}
use Rattle.pb_workspace.specs.LookedAt.{manifest_looked}
use Rattle.pb_workspace.specs.MemberFolders.{has_manifest}
use Rattle.pb_workspace.proofs.Walking.{all_past, first_looks, first_passes, first_stop}
use Rattle.pb_workspace.proofs.member_folders.with_manifests.Goals as goal

pub returns-in_err-is_taken-clause-looks : goal.returns-in_err-is_taken-clause-looks
returns-in_err-is_taken-clause-looks g c =
    let h = c.loop-folder.invariant.looks (Err c.in_err-is_taken.field-0.0) (g.P.Place.at c.has_manifest.new.place).counts
    (first_stop _ _ c.in-Some.folder c.in-Some.ensures.steps.0 (manifest_looked c.args.target.now) c.in_err-is_taken.field-0.0 _ _ c.in_err-is_taken.ensures.outside c.in_err-is_taken.ensures.looks) in
    search (rules, h)

pub loop-folder-preserved : goal.loop-folder-preserved
loop-folder-preserved g c = record {
  taken = λ told. first_passes _ _ c.in-Some.folder c.in-Some.ensures.steps.0 (has_manifest (from_nothing c.args.target.now (g.P.Place.at c.args.place.now).world)) _ _ _
      (sym (ap (λ w. has_manifest (from_nothing c.args.target.now w) c.in-Some.folder) c.loop-folder.invariant.quiet.world) ∙ sym (c.in_ok-is_taken.ensures.ok told) ∙ c.if-not-is_taken.false)
      c.in_ok-push.ensures.ok (c.loop-folder.invariant.taken told);
  quiet = search rules;
  looks = λ r new more. c.loop-folder.invariant.looks r new (first_looks _ _ c.in-Some.folder c.in-Some.ensures.steps.0 (manifest_looked c.args.target.now) r _ _ new c.in_ok-is_taken.ensures.looks more);
}

pub returns-in_err-push-clause-looks : goal.returns-in_err-push-clause-looks
returns-in_err-push-clause-looks g c =
    let h = c.loop-folder.invariant.looks (Err OutOfMemory) (g.P.Place.at c.has_manifest.new.place).counts
    (first_looks _ _ c.in-Some.folder c.in-Some.ensures.steps.0 {T = List (List ℕ)} (manifest_looked c.args.target.now) (Err OutOfMemory) _ _ _ c.in_ok-is_taken.ensures.looks (looks_none OutOfMemory _ _ _ refl refl refl)) in
    search (rules, h)

pub returns-clause-looks : goal.returns-clause-looks
returns-clause-looks g c =
    let none : length (into_iter_items c.loop-folder.folder-iterator) ≡ 0 = omega (arith, c.in-None.ensures.steps.0) in
    c.loop-folder.invariant.looks (Ok c.loop-folder.taken) (g.P.Place.at c.loop-folder.place).counts
    (subst (λ xs. (g.P.Place.at c.loop-folder.place).counts ≡ past_calls (flat_map (manifest_looked c.args.target.now) xs) (g.P.Place.at c.loop-folder.place).counts) (sym (all_past _ none)) refl)
