-- The sources of a world, file by file.
use Rattle.std.proofs.Common.{◌≡◌, ◌||◌, ◌∙◌, List, [], ◌∷◌, ℕ, Bool, true, false, not, cond, Option, None, is_some, refl, sym, ap}
use Rattle.std.proofs.lemmas.Bool.{false≢true}
use Rattle.std.proofs.lemmas.Slice.Eq.{bytes_eq-Decides}
use Rattle.std.specs.List.{list_any}
use Rattle.std.specs.FinMap.{get, keys, retain_keys}
use Rattle.pb_place_types.specs.Paths.{is_at_or_below, is_below}
use Rattle.pb_place_types.specs.World.{World, from_nothing, folders_among, has_file, is_same_path, listed, listed_folders}
use Rattle.pb_place_types.proofs.MapLemmas.{among_keys, get-kept, same_bytes}
use Rattle.pb_place_types.proofs.Within.{at_below, at_then_below}

-- a file of the sources is one of the world that is not at or below the target folder
pub get-sources : (target : List ℕ) (w : World) (path : List ℕ) → get (from_nothing target w).files path ≡ cond (not (is_at_or_below target path)) (get w.files path) None
get-sources target w path = get-kept w.files (λ q. not (is_at_or_below target q)) path

pub ruleset source_laws = (get-sources)

kept_some : (out : Bool) (o : Option (List ℕ)) → is_some (cond (not out) o None) ≡ cond out false (is_some o)
kept_some true o = refl
kept_some false o = refl

pub has-sources : (target : List ℕ) (w : World) (path : List ℕ) → has_file path (from_nothing target w) ≡ cond (is_at_or_below target path) false (has_file path w)
has-sources target w path = ap is_some (get-sources target w path) ∙ kept_some (is_at_or_below target path) (get w.files path)

pub ruleset asking_laws = (has-sources)

-- nothing is listed where no path is among them
none_among : (xs : List (List ℕ)) → ((q : List ℕ) → list_any (is_same_path q) xs ≡ false) → [] ≡ xs
none_among [] none = refl
none_among (x ∷ xs) none = absurd (false≢true (sym (none x) ∙ ap (λ b. b || list_any (is_same_path x) xs) (sym (same_bytes x x) ∙ (bytes_eq-Decides x x).1 refl)))

none_kept : (target : List ℕ) (p : List ℕ → Bool) (w : World) → ((q : List ℕ) → p q ≡ true → is_at_or_below target q ≡ true) → [] ≡ keys (retain_keys (from_nothing target w).files p)
none_kept target p w inside = none_among _ (λ q. among_keys (retain_keys (from_nothing target w).files p) q ∙ ap is_some (get-kept (from_nothing target w).files p q ∙ ap (λ o. cond (p q) o None) (get-sources target w q)) ∙ by q (p q) (is_at_or_below target q) (get w.files q) refl refl)
  where
    by : (q : List ℕ) (a b : Bool) (o : Option (List ℕ)) → p q ≡ a → is_at_or_below target q ≡ b → is_some (cond a (cond (not b) o None) None) ≡ false
    by q false b o one two = refl
    by q true true o one two = refl
    by q true false o one two = absurd (false≢true (sym two ∙ inside q one))

-- nothing of the sources lies in a folder at or below the target folder
pub none-listed : (target folder : List ℕ) (w : World) → is_at_or_below target folder ≡ true → [] ≡ listed folder (from_nothing target w)
none-listed target folder w at = none_kept target (is_below folder) w (λ q is. at_below target q (at_then_below target folder q at is))

pub none-folders : (target folder : List ℕ) (w : World) → is_at_or_below target folder ≡ true → [] ≡ listed_folders folder (from_nothing target w)
none-folders target folder w at = ap (folders_among folder) (none-listed target folder w at)

pub ruleset listing_laws = (none-listed, none-folders)
