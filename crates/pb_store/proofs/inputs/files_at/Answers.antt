use Rattle.std.proofs.Common.{rules, arith, refl, true, List, ℕ}
use Rattle.std.proofs.lemmas.Grind.{common_steps}
use Rattle.pb_place_types.specs.Paths.{inside}
use Rattle.pb_place_types.specs.World.{World}
use Rattle.pb_store.specs.Presence.{file_looked}
use Rattle.pb_store.proofs.Looking.{looks_told, row_on, row_refused, row_stops}
use Rattle.pb_store.proofs.inputs.files_at.Goals as goal
use Rattle.pb_store.proofs.inputs.files_at.Goals.{in-Some+in-Ok, in_default}

pub returns-in_err-found-clause-looks : goal.returns-in_err-found-clause-looks
returns-in_err-found-clause-looks g c = looks_told c.from_residual.result c.in_err-found.field-0.0 _ _ _ (search rules)
    (row_stops (λ (w : World) (p : List ℕ). true) (λ (w : World) (p : List ℕ). file_looked p (inside c.args.folder.now p)) (g.P.Place.at c.args.place.now).world (g.P.Place.at c.args.place.now).world c.args.paths.now c.loop-path.path-index c.path-item.result c.loop-path-test.true c.path-item.is refl _ _ _ _ _
    c.loop-path.invariant.looks c.in_err-found.ensures.looks)

pub returns-in-Err-clause-looks : goal.returns-in-Err-clause-looks
returns-in-Err-clause-looks g c =
    row_refused (λ (w : World) (p : List ℕ). true) (λ (w : World) (p : List ℕ). file_looked p (inside c.args.folder.now p)) (g.P.Place.at c.args.place.now).world (g.P.Place.at c.args.place.now).world c.args.paths.now c.loop-path.path-index c.path-item.result c.loop-path-test.true c.path-item.is refl _ _ _ _
    c.loop-path.invariant.looks c.in_ok-found.ensures.looks

pub loop-path-preserved : goal.loop-path-preserved
loop-path-preserved g c = record {
  quiet = search rules;
  files = λ is_modelled. elim c.match-found.branch [
    | in-Some+in-Ok w ↦ grind (arith, common_steps)
    | in_default w ↦ grind (arith, common_steps)
  ];
  looks = row_on (λ (w : World) (p : List ℕ). true) (λ (w : World) (p : List ℕ). file_looked p (inside c.args.folder.now p)) (g.P.Place.at c.args.place.now).world (g.P.Place.at c.args.place.now).world c.args.paths.now c.loop-path.path-index c.path-item.result c.loop-path-test.true c.path-item.is refl _ _ _ _
      c.loop-path.invariant.looks c.in_ok-found.ensures.looks refl;
}
