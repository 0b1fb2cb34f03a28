-- What writing one file changes, and what putting the files of a reply changes.
use Rattle.std.proofs.Common.{◌≡◌, ℕ, Bool, true, false, not, ◌||◌, ◌⊎◌, take, cond, List, [], ◌∷◌, Option, Some, None, refl, sym, ap, ◌∙◌, inl, inr, is_some}
use Rattle.std.proofs.lemmas.Bool.{cases_Bool, false≢true}
use Rattle.std.specs.Ordering.{nat_cmp, is_eq}
use Rattle.std.specs.declared.cmp.Ordering.{Ordering}
use Rattle.std.specs.declared.cmp.Ordering.TheVariants.{Less, Equal, Greater}
use Rattle.std.specs.Cmp.{eq_by_cmp_equiv}
use Rattle.std.specs.Cmp.Lexicographic.{slice_cmp, nat_list_cmp_total}
use Rattle.std.specs.FinMap.{get, insert, remove, get-insert, get-remove, retain_keys}
use Rattle.std.specs.BTreeMap.{is_at}
use Rattle.std.specs.List.{list_all, list_any}
use Rattle.std.specs.Map.{lookup}
use Rattle.std.specs.Option.{option_map_or}
use Rattle.std.specs.Str.{bytes_eq}
use Rattle.pb_place_types.specs.Paths.{is_below, is_at_or_below}
use Rattle.pb_place_types.specs.World.{World, Map, written, removed, listed, AgreeBut, is_same_path, ChangesOnlyInSome, Torn, PartlyRemoved}
use Rattle.pb_place_types.proofs.MapLemmas.{Entries, exact, get-kept, among_keys}
use Rattle.pb_place_types.proofs.PathLemmas.{and_left, and_right}

-- what stands at a path after an insertion there
pub get-same : (m : Map) (p b : List ℕ) → get (insert m p b) p ≡ Some b
get-same m p b = get-insert nat_list_cmp_total m p b p ∙ ap (λ t. cond t (Some b) (get m p)) ((eq_by_cmp_equiv nat_list_cmp_total).refl p)

-- and at another path
pub get-other : (m : Map) (p b q : List ℕ) → is_same_path p q ≡ false → get (insert m p b) q ≡ get m q
get-other m p b q apart = get-insert nat_list_cmp_total m p b q ∙ ap (λ t. cond t (Some b) (get m q)) apart

tied : (o : Ordering) → is_eq o ≡ true → o ≡ Equal
tied Less h = cc
tied Equal h = refl
tied Greater h = cc

kept_is : {A : Type 0} (b : Bool) (x : A) → is_some (cond b (Some x) None) ≡ b
kept_is true x = refl
kept_is false x = refl

-- what is read where a file was written, and whether its path is listed
pub written-read : (path bytes : List ℕ) (old new : World) → new ≡ written path bytes old → get new.files path ≡ Some bytes
written-read path bytes old new is = ap (λ w. get w.files path) is ∙ get-same old.files path bytes

pub written-listed : (path bytes folder : List ℕ) (old new : World) → new ≡ written path bytes old → list_any (is_same_path path) (listed folder new) ≡ is_below folder path
written-listed path bytes folder old new is =
    among_keys (retain_keys new.files (is_below folder)) path ∙ ap is_some (get-kept new.files (is_below folder) path ∙ ap (λ o. cond (is_below folder path) o None) (written-read path bytes old new is)) ∙ kept_is (is_below folder path) bytes

-- what is read after a removal
pub removed-read : (path q : List ℕ) (old new : World) → new ≡ removed path old → get new.files q ≡ cond (not (is_at_or_below path q)) (get old.files q) None
removed-read path q old new is = ap (λ w. get w.files q) is ∙ get-kept old.files (λ x. not (is_at_or_below path x)) q

-- paths that compare as one are one
pub same_path : (p q : List ℕ) → is_same_path p q ≡ true → q ≡ p
same_path p q same = exact q p (tied (slice_cmp nat_cmp q p) same)

-- two paths of which one passes a test are two
pub apart_by : (may : List ℕ → Bool) (p q : List ℕ) → may p ≡ true → may q ≡ false → is_same_path p q ≡ false
apart_by may p q inside outside =
    elim (cases_Bool (is_same_path p q)) [
      | inl same ↦ absurd (false≢true (sym outside ∙ ap may (same_path p q same) ∙ inside))
      | inr apart ↦ apart
    ]

-- one more file where the test passes
pub AgreeBut-insert : (may : List ℕ → Bool) (path b : List ℕ) (m n new : Map) → AgreeBut may m n → may path ≡ true → new ≡ insert n path b → AgreeBut may m new
AgreeBut-insert may path b m n new only inside is q outside = ap (λ x. get x q) is ∙ get-other n path b q (apart_by may path q inside outside) ∙ only q outside

pub AgreeBut-refl : (may : List ℕ → Bool) (m new : Map) → new ≡ m → AgreeBut may m new
AgreeBut-refl may m new is q outside = ap (λ x. get x q) is

or_left : (a b : Bool) → a || b ≡ false → a ≡ false
or_left true b h = h
or_left false b h = refl

or_right : (a b : Bool) → a || b ≡ false → b ≡ false
or_right true b h = absurd (false≢true (sym h))
or_right false b h = h

-- no change, and one change after another
pub AgreeBut-same : (may : List ℕ → Bool) (m : Map) → AgreeBut may m m
AgreeBut-same may m q outside = refl

pub AgreeBut-then : (may : List ℕ → Bool) (m n o : Map) → AgreeBut may m n → AgreeBut may n o → AgreeBut may m o
AgreeBut-then may m n o one two q outside = two q outside ∙ one q outside

-- changes that one of two tests lets through
pub AgreeBut-left : (may more : List ℕ → Bool) (m n : Map) → AgreeBut may m n → AgreeBut (λ q. may q || more q) m n
AgreeBut-left may more m n agree q outside = agree q (or_left (may q) (more q) outside)

pub AgreeBut-right : (may more : List ℕ → Bool) (m n : Map) → AgreeBut more m n → AgreeBut (λ q. may q || more q) m n
AgreeBut-right may more m n agree q outside = agree q (or_right (may q) (more q) outside)

-- a write, and a removal
pub AgreeBut-written : (path bytes : List ℕ) (old new : World) → new ≡ written path bytes old → AgreeBut (is_same_path path) old.files new.files
AgreeBut-written path bytes old new is q apart = ap (λ w. get w.files q) is ∙ get-other old.files path bytes q apart

pub AgreeBut-removed : (path : List ℕ) (old new : World) → new ≡ removed path old → AgreeBut (is_at_or_below path) old.files new.files
AgreeBut-removed path old new is q outside = ap (λ w. get w.files q) is ∙ get-kept old.files (λ x. not (is_at_or_below path x)) q ∙ ap (λ b. cond (not b) (get old.files q) None) outside

-- a start
pub AgreeBut-started : (out : Option (List ℕ)) (old new : World) → ChangesOnlyInSome out old new → AgreeBut (λ q. option_map_or (λ folder. is_at_or_below folder q) out false) old.files new.files
unfolding is_at_or_below
AgreeBut-started None old new same q outside = ap (λ w. get w.files q) same
AgreeBut-started (Some folder) old new only q outside = only.files q (or_right (bytes_eq folder q) (is_below folder q) outside)

pub ruleset alone_laws = (AgreeBut-same, AgreeBut-then, AgreeBut-left, AgreeBut-right, AgreeBut-written, AgreeBut-removed, AgreeBut-started)

-- what a write that failed may leave
pub torn-old : (path bytes : List ℕ) (w : World) → Torn path bytes w w
torn-old path bytes w = record { variables = refl; files = record { only = λ q apart. refl; there = inl refl } }

pub torn-first : (path bytes : List ℕ) (n : ℕ) (w : World) → Torn path bytes w (written path (take n bytes) w)
torn-first path bytes n w = record {
  variables = refl;
  files = record { only = λ q apart. get-other w.files path (take n bytes) q apart; there = inr (inr (n, get-same w.files path (take n bytes))) };
}

pub torn-none : (path bytes : List ℕ) (w : World) → Torn path bytes w record w { files = remove w.files path }
torn-none path bytes w = record {
  variables = refl;
  files = record {
    only = λ q apart. get-remove nat_list_cmp_total w.files path q ∙ ap (λ b. cond b None (get w.files q)) apart;
    there = inr (inl (get-remove nat_list_cmp_total w.files path path ∙ ap (λ b. cond b None (get w.files path)) ((eq_by_cmp_equiv nat_list_cmp_total).refl path)));
  };
}

-- and a removal that failed
kept-or-none : {A : Type 0} (b : Bool) (old new : Option A) → new ≡ cond b old None → (new ≡ old) ⊎ (new ≡ None)
kept-or-none true old new is = inl is
kept-or-none false old new is = inr is

pub partly-all : (path : List ℕ) (w : World) → PartlyRemoved path w w
partly-all path w = record { variables = refl; files = record { only = λ q outside. refl; there = λ q. inl refl } }

pub partly-none : (path : List ℕ) (w : World) → PartlyRemoved path w (removed path w)
partly-none path w = record {
  variables = refl;
  files = record {
    only = λ q outside. get-kept w.files (λ x. not (is_at_or_below path x)) q ∙ ap (λ b. cond (not b) (get w.files q) None) outside;
    there = λ q. kept-or-none (not (is_at_or_below path q)) (get w.files q) _ (get-kept w.files (λ x. not (is_at_or_below path x)) q);
  };
}

-- what calls that fail may leave
pub ruleset failing_laws = (torn-old, torn-first, torn-none, partly-all, partly-none)

-- what is found among entries whose keys pass a test is at a key that does
pub found_passes : (p : List ℕ → Bool) (es : Entries) (q bytes : List ℕ) → list_all (λ e. p e.0) es ≡ true → lookup (is_at (slice_cmp nat_cmp q)) es ≡ Some bytes → p q ≡ true
found_passes p [] q bytes all is = cc
found_passes p (e ∷ es) q bytes all is = elim (cases_Bool (is_same_path e.0 q)) [
  | inl here ↦ ap p (same_path e.0 q here) ∙ and_left _ _ all
  | inr other ↦ found_passes p es q bytes (and_right _ _ all) (sym (ap (λ b. cond b (Some e.1) (lookup (is_at (slice_cmp nat_cmp q)) es)) other) ∙ is)
]
