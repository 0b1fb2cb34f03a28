use Rattle.std.proofs.Common.{◌≡◌, ◌∷◌, ◌+◌, ◌∙◌, List, ℕ, None, cond, ap, sym, drop, arith}
use Rattle.std.proofs.lemmas.Grind.{common_steps}
use Rattle.std.specs.List.{list_any, list_all}
use Rattle.std.specs.FinMap.{get}
use Rattle.pb_place_types.specs.World.{is_same_path}
use Rattle.pb_place_types.specs.Maps.{files_of}
use Rattle.pb_place_types.proofs.MapLemmas.{removed_one, cond_two, all-remove_entry}
use Rattle.pb_place_types.proofs.files.remove_names.Goals as goal

pub loop-name-preserved : goal.loop-name-preserved
loop-name-preserved c =
    let rest = drop (c.loop-name.name-index + 1) c.args.names.now in
    let here : drop c.loop-name.name-index c.args.names.now ≡ c.name-item.result ∷ rest = grind (arith, common_steps) in
    record {
      gone = λ q.
          ap (cond (list_any (is_same_path q) rest) None) (removed_one _ _ c.name-item.result c.remove.ensures.updates.0 q) ∙ cond_two (is_same_path q c.name-item.result) _ None _
          ∙ ap (λ (names : List (List ℕ)). cond (list_any (is_same_path q) names) None (get (files_of c.loop-name.files) q)) (sym here) ∙ c.loop-name.invariant.gone q;
      keys = λ p all. ap (list_all (λ e. p e.0)) c.remove.ensures.entries ∙ all-remove_entry p _ _ (c.loop-name.invariant.keys p all);
    }
