-- Lists: what is added at the end, taken out at an index, and said of each item.
use Rattle.std.proofs.Common.{◌≡◌, ◌≢◌, ◌∙◌, ◌++◌, ◌<◌, inl, inr, List, [], ◌∷◌, ℕ, zero, suc, Some, Contains, if◌then◌else◌, refl, sym, ap, subst, arith, slice_get, map, length, append_assoc, eq-eqb, slice_set}
use Rattle.std.proofs.lemmas.Bool.{ne_eqb}
use Rattle.std.specs.List.{AllByRecursion, flat_map, remove}
use Rattle.std.specs.Prelude.{slice_set}
use Rattle.pb_run_flight.specs.Events.{without}
use Rattle.pb_run_flight.proofs.Lists.{injective, clash, contains_none, contains_head, contains_tail, contains_cases}
use Rattle.pb_build_turns.specs.Executor.{AreApart}

-- What is said of each item.

pub all_more : {A : Type 0} (P : A → Type 0) (xs ys : List A) → AllByRecursion P xs → AllByRecursion P ys → AllByRecursion P (xs ++ ys)
all_more P [] ys all more = more
all_more P (x ∷ xs) ys all more = (all.0, all_more P xs ys all.1 more)

pub all_as : {A : Type 0} (P Q : A → Type 0) (xs : List A) → ((x : A) → P x → Q x) → AllByRecursion P xs → AllByRecursion Q xs
all_as P Q [] ls all = tt
all_as P Q (x ∷ xs) ls all = (ls x all.0, all_as P Q xs ls all.1)

-- with where the item stands
pub all_at_each : {A : Type 0} (P Q : A → Type 0) (xs : List A) → ((k : ℕ) (x : A) → slice_get xs k ≡ Some x → P x → Q x) → AllByRecursion P xs → AllByRecursion Q xs
all_at_each P Q [] ls all = tt
all_at_each P Q (x ∷ xs) ls all = (ls 0 x refl all.0, all_at_each P Q xs (λ k y at. ls (suc k) y at) all.1)

pub all_get : {A : Type 0} (P : A → Type 0) (xs : List A) (k : ℕ) (x : A) → AllByRecursion P xs → slice_get xs k ≡ Some x → P x
all_get P [] k x all at = absurd (clash at)
all_get P (y ∷ xs) zero x all at = subst P (injective at) all.0
all_get P (y ∷ xs) (suc k) x all at = all_get P xs k x all.1 at

pub all_removed : {A : Type 0} (P : A → Type 0) (xs : List A) (k : ℕ) → AllByRecursion P xs → AllByRecursion P (remove xs k)
all_removed P [] zero all = tt
all_removed P [] (suc k) all = tt
all_removed P (x ∷ xs) zero all = all.1
all_removed P (x ∷ xs) (suc k) all = (all.0, all_removed P xs k all.1)

-- of each that is left, with where it stood
pub all_left : {A : Type 0} (P Q : A → Type 0) (xs : List A) (k : ℕ) → ((j : ℕ) (x : A) → slice_get xs j ≡ Some x → j ≢ k → P x → Q x) → AllByRecursion P xs → AllByRecursion Q (remove xs k)
all_left P Q [] zero each all = tt
all_left P Q [] (suc k) each all = tt
all_left P Q (x ∷ xs) zero each all = all_at_each P Q xs (λ j y at. each (suc j) y at (λ e. omega (arith, e))) all.1
all_left P Q (x ∷ xs) (suc k) each all = (each 0 x refl (λ e. omega (arith, e)) all.0, all_left P Q xs k (λ j y at ne. each (suc j) y at (λ e. ne (omega (arith, e)))) all.1)

-- Lists of lists.

pub flat_more : {A B : Type 0} (f : A → List B) (xs ys : List A) → flat_map f (xs ++ ys) ≡ flat_map f xs ++ flat_map f ys
flat_more f [] ys = refl
flat_more f (x ∷ xs) ys = ap (λ zs. f x ++ zs) (flat_more f xs ys) ∙ sym (append_assoc (f x) (flat_map f xs) (flat_map f ys))

-- an item that gives nothing is taken out
pub flat_stays : {A B : Type 0} (f : A → List B) (xs : List A) (k : ℕ) (x : A) → slice_get xs k ≡ Some x → f x ≡ [] → flat_map f (remove xs k) ≡ flat_map f xs
flat_stays f [] k x at none = absurd (clash at)
flat_stays f (y ∷ xs) zero x at none = ap (λ l. l ++ flat_map f xs) (sym (ap f (injective at) ∙ none))
flat_stays f (y ∷ xs) (suc k) x at none = ap (λ l. f y ++ l) (flat_stays f xs k x at none)

all_right : {A : Type 0} (P : A → Type 0) (ls bs : List A) → AllByRecursion P (ls ++ bs) → AllByRecursion P bs
all_right P [] bs all = all
all_right P (a ∷ ls) bs all = all_right P ls bs all.1

pub all_flat : {A : Type 0} (P : ℕ → Type 0) (f : A → List ℕ) (xs : List A) (k : ℕ) → AllByRecursion P (flat_map f xs) → AllByRecursion P (flat_map f (remove xs k))
all_flat P f [] zero all = all
all_flat P f [] (suc k) all = all
all_flat P f (x ∷ xs) zero all = all_right P (f x) (flat_map f xs) all
all_flat P f (x ∷ xs) (suc k) all = by (f x) (λ h. all_flat P f xs k h) all
  where
    by : (ls : List ℕ) → (AllByRecursion P (flat_map f xs) → AllByRecursion P (flat_map f (remove xs k))) → AllByRecursion P (ls ++ flat_map f xs) → AllByRecursion P (ls ++ flat_map f (remove xs k))
    by [] more all = more all
    by (a ∷ ls) more all = (all.0, by ls more all.1)

-- Numbers of which no two are one.

pub apart_more : (xs : List ℕ) (n : ℕ) → AreApart xs → AllByRecursion (λ x. x ≢ n) xs → AreApart (xs ++ n ∷ [])
apart_more [] n apart none = (tt, tt)
apart_more (x ∷ xs) n apart none = (all_more (λ m. x ≢ m) xs (n ∷ []) apart.0 (none.0, tt), apart_more xs n apart.1 none.1)

pub apart_right : (xs ys : List ℕ) → AreApart (xs ++ ys) → AreApart ys
apart_right [] ys apart = apart
apart_right (x ∷ xs) ys apart = apart_right xs ys apart.1

pub apart_flat : {A : Type 0} (f : A → List ℕ) (xs : List A) (k : ℕ) → AreApart (flat_map f xs) → AreApart (flat_map f (remove xs k))
apart_flat f [] zero apart = apart
apart_flat f [] (suc k) apart = apart
apart_flat f (x ∷ xs) zero apart = apart_right (f x) (flat_map f xs) apart
apart_flat f (x ∷ xs) (suc k) apart = by (f x) (λ h. apart_flat f xs k h) apart
  where
    still : (a : ℕ) (ls : List ℕ) → AllByRecursion (λ m. a ≢ m) (ls ++ flat_map f xs) → AllByRecursion (λ m. a ≢ m) (ls ++ flat_map f (remove xs k))
    still a [] all = all_flat (λ m. a ≢ m) f xs k all
    still a (b ∷ ls) all = (all.0, still a ls all.1)

    by : (ls : List ℕ) → (AreApart (flat_map f xs) → AreApart (flat_map f (remove xs k))) → AreApart (ls ++ flat_map f xs) → AreApart (ls ++ flat_map f (remove xs k))
    by [] more apart = more apart
    by (a ∷ ls) more apart = (still a ls apart.0, by ls more apart.1)

past : {A : Type 0} (ls ms : List A) (n : A) → Contains ms n → Contains (ls ++ ms) n
past [] ms n h = h
past (a ∷ ls) ms n h = contains_tail a (ls ++ ms) n (past ls ms n h)

-- what an item gives, all give
pub has_given : {A : Type 0} (f : A → List ℕ) (xs : List A) (k : ℕ) (x : A) (n : ℕ) → slice_get xs k ≡ Some x → f x ≡ n ∷ [] → Contains (flat_map f xs) n
has_given f [] k x n at is = absurd (clash at)
has_given f (y ∷ xs) zero x n at is = subst (λ l. Contains (l ++ flat_map f xs) n) (sym (ap f (injective at) ∙ is)) (contains_head n (flat_map f xs))
has_given f (y ∷ xs) (suc k) x n at is = past (f y) (flat_map f xs) n (has_given f xs k x n at is)

pub differs : (a n : ℕ) (ls : List ℕ) → AllByRecursion (λ m. a ≢ m) ls → Contains ls n → a ≢ n
differs a n [] all h = absurd (contains_none n h)
differs a n (b ∷ ls) all h = elim (contains_cases b ls n h) [
  | inl same ↦ subst (λ m. a ≢ m) same all.0
  | inr more ↦ differs a n ls all.1 more
]

pub without_first : (n : ℕ) (ls : List ℕ) → without n (n ∷ ls) ≡ ls
without_first n ls = ap (λ b. if b then ls else (n ∷ without n ls)) (eq-eqb n n refl)

pub without_other : (a n : ℕ) (ls : List ℕ) → a ≢ n → without n (a ∷ ls) ≡ a ∷ without n ls
without_other a n ls ne = ap (λ b. if b then ls else (a ∷ without n ls)) (ne_eqb a n ne)

without_past : (n : ℕ) (ls ms ns : List ℕ) → AreApart (ls ++ ms) → Contains ms n → (AreApart ms → ns ≡ without n ms) → ls ++ ns ≡ without n (ls ++ ms)
without_past n [] ms ns apart has more = more apart
without_past n (a ∷ ls) ms ns apart has more =
    ap (λ l. a ∷ l) (without_past n ls ms ns apart.1 has more) ∙ sym (without_other a n (ls ++ ms) (differs a n (ls ++ ms) apart.0 (past ls ms n has)))

-- the only one of its kind is taken out, where the item gives it
pub flat_without : {A : Type 0} (f : A → List ℕ) (xs : List A) (k : ℕ) (x : A) (n : ℕ) → AreApart (flat_map f xs) → slice_get xs k ≡ Some x → f x ≡ n ∷ [] → flat_map f (remove xs k) ≡ without n (flat_map f xs)
flat_without f [] k x n apart at is = absurd (clash at)
flat_without f (y ∷ xs) zero x n apart at is = sym (ap (λ l. without n (l ++ flat_map f xs)) (ap f (injective at) ∙ is) ∙ without_first n (flat_map f xs))
flat_without f (y ∷ xs) (suc k) x n apart at is =
    without_past n (f y) (flat_map f xs) (flat_map f (remove xs k)) apart (has_given f xs k x n at is) (λ h. flat_without f xs k x n h at is)

-- a list as one of lists of one item
pub flat_ones : {A : Type 0} (f : A → ℕ) (xs : List A) → flat_map (λ x. f x ∷ []) xs ≡ map f xs
flat_ones f [] = refl
flat_ones f (x ∷ xs) = ap (λ l. f x ∷ l) (flat_ones f xs)

pub map_removed : {A : Type 0} (f : A → ℕ) (xs : List A) (k : ℕ) → map f (remove xs k) ≡ remove (map f xs) k
map_removed f [] zero = refl
map_removed f [] (suc k) = refl
map_removed f (x ∷ xs) zero = refl
map_removed f (x ∷ xs) (suc k) = ap (λ l. f x ∷ l) (map_removed f xs k)

pub get_map : {A : Type 0} (f : A → ℕ) (xs : List A) (k : ℕ) (x : A) → slice_get xs k ≡ Some x → slice_get (map f xs) k ≡ Some (f x)
get_map f [] k x at = absurd (clash at)
get_map f (y ∷ xs) zero x at = ap (λ z. Some (f z)) (injective at)
get_map f (y ∷ xs) (suc k) x at = get_map f xs k x at

-- what is said of all holds of what an item gives
pub among : {A : Type 0} (f : A → List ℕ) (xs : List A) (k : ℕ) (x : A) (n : ℕ) (P : ℕ → Type 0) → slice_get xs k ≡ Some x → f x ≡ n ∷ [] → AllByRecursion P (flat_map f xs) → P n
among f [] k x n P at is all = absurd (clash at)
among f (y ∷ xs) zero x n P at is all = (subst (λ l. AllByRecursion P (l ++ flat_map f xs)) (ap f (injective at) ∙ is) all).0
among f (y ∷ xs) (suc k) x n P at is all = among f xs k x n P at is (all_right P (f y) (flat_map f xs) all)

-- numbers at two indices differ
pub apart_indices : (ns : List ℕ) (i j m n : ℕ) → AreApart ns → slice_get ns i ≡ Some m → slice_get ns j ≡ Some n → i ≢ j → m ≢ n
apart_indices [] i j m n apart a b ne = absurd (clash a)
apart_indices (x ∷ ns) zero zero m n apart a b ne = absurd (ne refl)
apart_indices (x ∷ ns) zero (suc j) m n apart a b ne = subst (λ y. y ≢ n) (injective a) (all_get (λ y. x ≢ y) ns j n apart.0 b)
apart_indices (x ∷ ns) (suc i) zero m n apart a b ne = λ e. subst (λ y. y ≢ m) (injective b) (all_get (λ y. x ≢ y) ns i m apart.0 a) (sym e)
apart_indices (x ∷ ns) (suc i) (suc j) m n apart a b ne = apart_indices ns i j m n apart.1 a b (λ e. ne (ap suc e))

-- items at two indices that each give a number give different ones
pub flat_apart : {A : Type 0} (f : A → List ℕ) (xs : List A) (i j : ℕ) (x y : A) (m n : ℕ) → AreApart (flat_map f xs) → slice_get xs i ≡ Some x → slice_get xs j ≡ Some y → f x ≡ m ∷ [] → f y ≡ n ∷ [] → i ≢ j → m ≢ n
flat_apart f [] i j x y m n apart a b is_x is_y ne = absurd (clash a)
flat_apart f (z ∷ xs) zero zero x y m n apart a b is_x is_y ne = absurd (ne refl)
flat_apart f (z ∷ xs) zero (suc j) x y m n apart a b is_x is_y ne =
    let both : AreApart ((m ∷ []) ++ flat_map f xs) = subst (λ l. AreApart (l ++ flat_map f xs)) (ap f (injective a) ∙ is_x) apart in
    among f xs j y n (λ k. m ≢ k) b is_y both.0
flat_apart f (z ∷ xs) (suc i) zero x y m n apart a b is_x is_y ne =
    let both : AreApart ((n ∷ []) ++ flat_map f xs) = subst (λ l. AreApart (l ++ flat_map f xs)) (ap f (injective b) ∙ is_y) apart in
    λ e. among f xs i x m (λ k. n ≢ k) a is_x both.0 (sym e)
flat_apart f (z ∷ xs) (suc i) (suc j) x y m n apart a b is_x is_y ne = flat_apart f xs i j x y m n (apart_right (f z) (flat_map f xs) apart) a b is_x is_y (λ e. ne (ap suc e))

-- a list by its length
pub get_set_within : {A : Type 0} (xs : List A) (i : ℕ) (y : A) → i < length xs → slice_get (slice_set xs i y) i ≡ Some y
get_set_within [] i y less = absurd (omega (arith, less))
get_set_within (x ∷ xs) zero y less = refl
get_set_within (x ∷ xs) (suc i) y less = get_set_within xs i y (omega (arith, less))

pub length_push : {A : Type 0} (xs : List A) (x : A) → length (xs ++ x ∷ []) ≡ suc (length xs)
length_push [] x = refl
length_push (y ∷ xs) x = ap suc (length_push xs x)

-- an entry that was put there
pub get_put : {X : Type 0} (xs : List X) (i : ℕ) (y : X) → i < length xs → slice_get (slice_set xs i y) i ≡ Some y
get_put [] i y within = absurd (omega (arith, within))
get_put (x ∷ xs) zero y within = refl
get_put (x ∷ xs) (suc i) y within = get_put xs i y (omega (arith, within))
