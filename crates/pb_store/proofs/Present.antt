-- Lemmas on the present values of inputs.
use Rattle.std.proofs.Common.{◌≡◌, ◌∙◌, ◌+◌, ◌&&◌, ℕ, Bool, true, false, not, cond, List, [], ◌∷◌, map, drop, length, T, Option, Some, None, refl, sym, ap, cond}
use Rattle.std.specs.List.{filter_map, AllByRecursion}
use Rattle.std.specs.Ordering.{nat_cmp, eq_by_cmp, is_eq, is_lt, ordering_reverse}
use Rattle.std.specs.declared.cmp.Ordering.{Ordering}
use Rattle.std.specs.declared.cmp.Ordering.TheVariants.{Less, Equal, Greater}
use Rattle.std.specs.Cmp.{tied_itself}
use Rattle.std.specs.Cmp.Lexicographic.{slice_cmp, nat_list_cmp_total}
use Rattle.std.specs.FinMap.{get, find, keys, entries, entries_sorted, get-entries}
use Rattle.std.specs.FinMap.Entries.{is_sorted, below_all}
use Rattle.pb_place_types.specs.Folders.{files_in}
use Rattle.pb_place_types.specs.Paths.{is_below, is_at_or_below, stem}
use Rattle.pb_place_types.specs.World.{World, Map, removed, listed, from_nothing}
use Rattle.pb_place_types.proofs.MapLemmas.{Entries, get-kept}
use Rattle.pb_store_soundness.specs.Inputs.{contents}
use Rattle.pb_store.specs.Presence.{both_of, file_in}

-- each entry is found at its key

first : (a b : Bool) → T (a && b) → T a
first true b p = tt
first false b p = p

second : (a b : Bool) → T (a && b) → T b
second true b p = p
second false b p = absurd p

less : (o : Ordering) → T (is_lt o) → o ≡ Less
less Less p = refl
less Equal p = absurd p
less Greater p = absurd p

abbrev at : List ℕ → Entries → Option (List ℕ)
at q es = find (slice_cmp nat_cmp) q es

tied : (q : List ℕ) → eq_by_cmp (slice_cmp nat_cmp) q q ≡ true
tied q = ap is_eq (tied_itself nat_list_cmp_total q)

later : (e : List ℕ × List ℕ) (es : Entries) (q : List ℕ) → T (is_lt (slice_cmp nat_cmp e.0 q)) → at q (e ∷ es) ≡ at q es
later e es q before = ap (λ o. cond (is_eq o) (Some e.1) (at q es)) (nat_list_cmp_total.antisymm q e.0 ∙ ap ordering_reverse (less (slice_cmp nat_cmp e.0 q) before))

found_later : (e : List ℕ × List ℕ) (es fs : Entries) → T (below_all (slice_cmp nat_cmp) e.0 fs) → AllByRecursion (λ f. at f.0 es ≡ Some f.1) fs → AllByRecursion (λ f. at f.0 (e ∷ es) ≡ Some f.1) fs
found_later e es [] before all = tt
found_later e es (f ∷ fs) before (here, all) = (later e es f.0 (first _ _ before) ∙ here, found_later e es fs (second _ _ before) all)

found_all : (es : Entries) → T (is_sorted (slice_cmp nat_cmp) es) → AllByRecursion (λ e. at e.0 es ≡ Some e.1) es
found_all [] sorted = tt
found_all (e ∷ es) sorted = (ap (λ b. cond b (Some e.1) (at e.0 es)) (tied e.0), found_later e es es (first _ _ sorted) (found_all es (second _ _ sorted)))

pub all_weaker : {A : Type 0} (P Q : A → Type 0) → ((x : A) → P x → Q x) → (xs : List A) → AllByRecursion P xs → AllByRecursion Q xs
all_weaker P Q more [] all = tt
all_weaker P Q more (x ∷ xs) (here, all) = (more x here, all_weaker P Q more xs all)

pub entries_found : (m : Map) → AllByRecursion (λ e. get m e.0 ≡ Some e.1) (entries m)
entries_found m = all_weaker (λ e. at e.0 (entries m) ≡ Some e.1) (λ e. get m e.0 ≡ Some e.1) (λ e here. get-entries m e.0 ∙ here) (entries m) (found_all (entries m) (entries_sorted m))

-- the files below a folder, read one by one

pub kept_passes : (b : Bool) (o : Option (List ℕ)) (x : List ℕ) → cond b o None ≡ Some x → (b ≡ true) × (o ≡ Some x)
kept_passes true o x e = (refl, e)
kept_passes false o x e = absurd (cc)

abbrev part_of : List ℕ → List ℕ × List ℕ → List ℕ × List ℕ
part_of folder e = (drop (length (stem folder) + 1) e.0, e.1)

file_found : (folder : List ℕ) (files : Map) (e : List ℕ × List ℕ) → is_below folder e.0 ≡ true → get files e.0 ≡ Some e.1 → file_in folder files e.0 ≡ Some (part_of folder e)
file_found folder files e is there = ap (λ b. both_of (cond b (Some (drop (length (stem folder) + 1) e.0)) None) (get files e.0)) is ∙ ap (both_of (Some (drop (length (stem folder) + 1) e.0))) there

all_found : {A B C : Type 0} (f : A → Option C) (g : B → C) (k : B → A) (es : List B) → AllByRecursion (λ e. f (k e) ≡ Some (g e)) es → filter_map f (map k es) ≡ map g es
all_found f g k [] all = refl
all_found f g k (e ∷ es) (here, all) = cc (here, all_found f g k es all)

module _ (folder : List ℕ) (m files : Map) (same : (q b : List ℕ) → get m q ≡ Some b → get files q ≡ Some b) where
  of_entry : (e : List ℕ × List ℕ) → get (files_in folder m) e.0 ≡ Some e.1 → file_in folder files e.0 ≡ Some (part_of folder e)
  of_entry e there =
      let kept = kept_passes (is_below folder e.0) (get m e.0) e.1 (sym (get-kept m (is_below folder) e.0) ∙ there) in
      file_found folder files e kept.0 (same e.0 e.1 kept.1)

  contents_read : filter_map (file_in folder files) (keys (files_in folder m)) ≡ contents folder m
  contents_read = all_found (file_in folder files) (part_of folder) (λ (e : List ℕ × List ℕ). e.0) (entries (files_in folder m))
      (all_weaker (λ e. get (files_in folder m) e.0 ≡ Some e.1) (λ e. file_in folder files e.0 ≡ Some (part_of folder e)) of_entry (entries (files_in folder m)) (entries_found (files_in folder m)))

pub files_in_it : (folder : List ℕ) (w : World) → filter_map (file_in folder w.files) (listed folder w) ≡ contents folder w.files
files_in_it folder w = contents_read folder w.files w.files (λ q b there. there)

pub sources_in : (target folder : List ℕ) (w : World) → filter_map (file_in folder w.files) (listed folder (removed target w)) ≡ contents folder (from_nothing target w).files
sources_in target folder w = contents_read folder (removed target w).files w.files (λ q b there. (kept_passes (not (is_at_or_below target q)) (get w.files q) b (sym (get-kept w.files (λ x. not (is_at_or_below target x)) q) ∙ there)).1)

-- a path of the sources

pub source_within : (target path : List ℕ) (w : World) → is_at_or_below target path ≡ true → get (from_nothing target w).files path ≡ None
source_within target path w within = get-kept w.files (λ q. not (is_at_or_below target q)) path ∙ ap (λ b. cond (not b) (get w.files path) None) within

pub source_outside : (target path : List ℕ) (w : World) → is_at_or_below target path ≡ false → get (from_nothing target w).files path ≡ get w.files path
source_outside target path w outside = get-kept w.files (λ q. not (is_at_or_below target q)) path ∙ ap (λ b. cond (not b) (get w.files path) None) outside

pub ruleset source_laws = (source_within, source_outside)
