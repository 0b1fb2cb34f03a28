use Rattle.std.proofs.Common.{◌≡◌, ℕ, List, [], ◌∷◌, length, Ok, Err, arith, refl, rules, subst, sym}
use Rattle.std.specs.Vec.Iter.{into_iter_items}
use Rattle.pb_place_types.specs.CallsInTurn.{past_calls}
use Rattle.pb_place_types.specs.World.{from_nothing}
use Rattle.pb_workspace.specs.LookedAt.{all_looked, folder_looked}
use Rattle.pb_workspace.specs.Rounds.{draft_at}
use Rattle.pb_workspace.proofs.LookingOver.{all_gives, all_looks, all_stop}
use Rattle.pb_workspace.proofs.rounds.all_read.Goals as goal

pub returns-in_err-reading-clause-looks : goal.returns-in_err-reading-clause-looks
returns-in_err-reading-clause-looks g c told =
    let h = c.loop-folder.invariant.looks told (Err c.in_err-reading.field-0.0) _ (all_stop c.args.target.now c.args.frame.now c.args.meant.now _ _ c.loop-folder.reading _ _ _ c.in_err-reading.field-0.0 _ _ c.in-Some.ensures.steps.0 (c.loop-folder.invariant.quiet.world) (c.in_err-reading.ensures.ok told) (c.in_err-reading.ensures.looks told)) in
    search (rules, h)

pub loop-folder-preserved : goal.loop-folder-preserved
loop-folder-preserved g c = record {
  read = λ told. all_gives c.args.target.now c.args.frame.now c.args.meant.now _ _ c.loop-folder.reading _ _ _ _ _ c.in-Some.ensures.steps.0 (c.loop-folder.invariant.quiet.world) (c.in_ok-reading.ensures.ok told) (c.loop-folder.invariant.read told);
  kept = c.in_ok-reading.ensures.kept;
  quiet = search rules;
  looks = λ told r new more. c.loop-folder.invariant.looks told r new (all_looks c.args.target.now c.args.frame.now c.args.meant.now _ _ c.loop-folder.reading _ _ _ _ r _ _ new c.in-Some.ensures.steps.0 (c.loop-folder.invariant.quiet.world) (c.in_ok-reading.ensures.ok told) (c.in_ok-reading.ensures.looks told) more);
}

-- a list without a length is empty
nothing : (xs : List (List ℕ)) → length xs ≡ 0 → xs ≡ []
nothing [] none = refl
nothing (x ∷ xs) none = absurd (omega arith)

pub returns-clause-looks : goal.returns-clause-looks
returns-clause-looks g c told =
    let D = draft_at (from_nothing c.args.target.now (g.P.Place.at c.args.place.now).world) c.args.frame.now c.args.meant.now in
    let look = folder_looked c.args.target.now (from_nothing c.args.target.now (g.P.Place.at c.args.place.now).world) c.args.frame.now in
    let none : length (into_iter_items c.loop-folder.folder-iterator) ≡ 0 = omega (arith, c.in-None.ensures.steps.0) in
    let ended : into_iter_items c.loop-folder.folder-iterator ≡ [] = nothing _ none in
    c.loop-folder.invariant.looks told (Ok c.loop-folder.reading) (g.P.Place.at c.loop-folder.place).counts
    (subst (λ xs. (g.P.Place.at c.loop-folder.place).counts ≡ past_calls (all_looked D look c.loop-folder.reading xs) (g.P.Place.at c.loop-folder.place).counts) (sym ended) refl)
