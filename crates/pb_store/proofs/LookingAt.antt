-- Where the reading of one input looks, and the reading of a folder.
use Rattle.std.proofs.Common.{◌≡◌, ◌∙◌, ◌++◌, ◌+◌, ℕ, true, cond, List, [], ◌∷◌, map, drop, length, Some, None, refl, sym, ap, subst}
use Rattle.std.specs.FinMap.{get, keys, entries}
use Rattle.std.specs.List.{AllByRecursion}
use Rattle.pb_place_types.specs.CallsInTurn.{past_calls}
use Rattle.pb_place_types.specs.declared.call.Call.{Call}
use Rattle.pb_place_types.specs.declared.call.Call.TheVariants as call
use Rattle.pb_place_types.specs.Counts.{Counts, past_call}
use Rattle.pb_place_types.specs.Folders.{files_in}
use Rattle.pb_place_types.specs.Paths.{is_below, stem}
use Rattle.pb_place_types.specs.World.{World, Map, listed}
use Rattle.pb_place_types.proofs.CallsInTurn.{made_both}
use Rattle.pb_place_types.proofs.MapLemmas.{get-kept}
use Rattle.pb_store.specs.Looking.{StopsAt}
use Rattle.pb_store.specs.Presence.{file_looked, files_looked}
use Rattle.pb_store.specs.declared.fault.StoreFault.{StoreFault}
use Rattle.pb_store.proofs.Looking.{stops_first, stops_then}
use Rattle.pb_store.proofs.Present.{all_weaker, entries_found, kept_passes}

-- each file listed in a folder is below it, and so it is read

all_inside : (folder : List ℕ) (es : List (List ℕ × List ℕ)) → AllByRecursion (λ e. is_below folder e.0 ≡ true) es → files_looked folder (map (λ (e : List ℕ × List ℕ). e.0) es) ≡ map call.Read (map (λ (e : List ℕ × List ℕ). e.0) es)
all_inside folder [] all = refl
all_inside folder (e ∷ es) (here, all) =
    ap (λ b. file_looked e.0 (cond b (Some (drop (length (stem folder) + 1) e.0)) None) ++ files_looked folder (map (λ (x : List ℕ × List ℕ). x.0) es)) here
    ∙ ap (λ calls. call.Read e.0 ∷ calls) (all_inside folder es all)

map_inside : (folder : List ℕ) (m : Map) → files_looked folder (keys (files_in folder m)) ≡ map call.Read (keys (files_in folder m))
map_inside folder m = all_inside folder (entries (files_in folder m))
    (all_weaker (λ e. get (files_in folder m) e.0 ≡ Some e.1) (λ e. is_below folder e.0 ≡ true) (λ e there. (kept_passes (is_below folder e.0) (get m e.0) e.1 (sym (get-kept m (is_below folder) e.0) ∙ there)).0)
    (entries (files_in folder m)) (entries_found (files_in folder m)))

listed_inside : (folder : List ℕ) (w : World) (paths : List (List ℕ)) → paths ≡ listed folder w → files_looked folder paths ≡ map call.Read (listed folder w)
listed_inside folder w paths are = ap (files_looked folder) are ∙ map_inside folder w.files

-- a folder is listed, by this call, and then its files in this world are read
module _ (listing : Call) (folder : List ℕ) (w : World) (paths : List (List ℕ)) (old mid new : Counts) where
  pub folder_made : paths ≡ listed folder w → mid ≡ past_call old → new ≡ past_calls (files_looked folder paths) mid → new ≡ past_calls (listing ∷ map call.Read (listed folder w)) old
  folder_made are first second = made_both (listing ∷ []) (map call.Read (listed folder w)) old mid new first (second ∙ ap (λ names. past_calls names mid) (listed_inside folder w paths are))

  pub folder_stops : (e : StoreFault) → paths ≡ listed folder w → mid ≡ past_call old → StopsAt e (files_looked folder paths) mid new → StopsAt e (listing ∷ map call.Read (listed folder w)) old new
  folder_stops e are first second = stops_then e (listing ∷ []) (map call.Read (listed folder w)) old mid new first (subst (λ names. StopsAt e names mid new) (listed_inside folder w paths are) second)

pub folder_unlisted : (listing : Call) (folder : List ℕ) (w : World) (e : StoreFault) (old new : Counts) → StopsAt e (listing ∷ []) old new → StopsAt e (listing ∷ map call.Read (listed folder w)) old new
folder_unlisted listing folder w e old new is = stops_first e (listing ∷ []) (map call.Read (listed folder w)) old new is
