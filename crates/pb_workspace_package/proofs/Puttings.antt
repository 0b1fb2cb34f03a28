-- Entries that are put in their places by byte order of their names.
use Rattle.std.proofs.Common.{◌≡◌, ◌≤◌, ℕ, suc, List, [], ◌∷◌, length, map, refl, ap, subst, arith, Ordering, Less, Equal, Greater}
use Rattle.std.specs.BTreeMap.{insert_entry}
use Rattle.std.specs.Cmp.Lexicographic.{slice_cmp}
use Rattle.std.specs.List.{AllByRecursion}
use Rattle.std.specs.Ordering.{nat_cmp, match_ordering}
use Rattle.pb_place_types.proofs.MapLemmas.{exact}
use Rattle.pb_workspace_package.specs.Sorted.{with_entry}

abbrev cmp : List ℕ → List ℕ → Ordering
cmp = slice_cmp nat_cmp

-- what holds of each entry still holds where one more is put that it holds of: an old name stays and takes the new value
pub with_entry_all : {V : Type 0} (P : List ℕ × V → Type 0) (es : List (List ℕ × V)) (k : List ℕ) (v : V) → AllByRecursion P es → P (k, v) → AllByRecursion P (with_entry es k v)
with_entry_all P [] k v all new = (new, tt)
with_entry_all {V} P (e ∷ es) k v all new = by (cmp k e.0) refl (with_entry_all P es k v all.1 new)
  where
    by : (o : Ordering) → cmp k e.0 ≡ o → AllByRecursion P (insert_entry cmp es k v) → AllByRecursion P (match_ordering o ((k, v) ∷ e ∷ es) ((e.0, v) ∷ es) (e ∷ insert_entry cmp es k v))
    by Less at rest = (new, all)
    by Equal at rest = (subst (λ q. P (q, v)) (exact k e.0 at) new, all.1)
    by Greater at rest = (all.0, rest)

-- there is one entry more, or as many
pub with_entry_length : {V : Type 0} (es : List (List ℕ × V)) (k : List ℕ) (v : V) → length (with_entry es k v) ≤ suc (length es)
with_entry_length [] k v = omega arith
with_entry_length {V} (e ∷ es) k v = by (cmp k e.0) (with_entry_length es k v)
  where
    by : (o : Ordering) → length (insert_entry cmp es k v) ≤ suc (length es) → length (match_ordering o ((k, v) ∷ e ∷ es) ((e.0, v) ∷ es) (e ∷ insert_entry cmp es k v)) ≤ suc (length (e ∷ es))
    by Less rest = omega arith
    by Equal rest = omega arith
    by Greater rest = omega arith

-- what holds of each made of some holds of all that are made
pub all_map : {A B : Type 0} (Q : B → Type 0) (f : A → B) (xs : List A) → AllByRecursion (λ x. Q (f x)) xs → AllByRecursion Q (map f xs)
all_map Q f [] all = tt
all_map Q f (x ∷ xs) all = (all.0, all_map Q f xs all.1)

pub all_given : {A : Type 0} (P Q : A → Type 0) → ((x : A) → P x → Q x) → (xs : List A) → AllByRecursion P xs → AllByRecursion Q xs
all_given P Q step [] all = tt
all_given P Q step (x ∷ xs) all = (step x all.0, all_given P Q step xs all.1)

-- made in two steps, or in one
pub map_twice : {A B C : Type 0} (g : B → C) (f : A → B) (xs : List A) → map g (map f xs) ≡ map (λ x. g (f x)) xs
map_twice g f [] = refl
map_twice g f (x ∷ xs) = ap (λ ys. g (f x) ∷ ys) (map_twice g f xs)
