-- Elements of lists, and the greatest level among them.
use Rattle.std.proofs.Common.{◌≡◌, ◌⊎◌, inl, inr, ℕ, zero, suc, ◌+◌, ◌<◌, ◌≤◌, List, [], ◌∷◌, ◌++◌, map, length, get_or, refl, sym, ap, subst, ◌∙◌, arith, Contains, Bool, true, false, take, cond, Some, slice_get}
use Rattle.std.specs.List.{AllZip}
use Rattle.std.specs.Prelude.{filter, All, AllPairs}
use Rattle.std.proofs.lemmas.Option.{slice_get-get_or, get_or_from_slice_get, slice_get_within}
use Rattle.std.proofs.lemmas.List.Elements.{Contains-append_right, All-append}
use Rattle.std.proofs.lemmas.List.{map-append, take_more}
use Rattle.pb_graph.specs.Graph.{above}

pub contains_head : {X : Type 0} (x : X) (xs : List X) → Contains (x ∷ xs) x
contains_head x xs = (0, omega arith, refl)

pub contains_tail : {X : Type 0} (x : X) (xs : List X) (v : X) → Contains xs v → Contains (x ∷ xs) v
contains_tail x xs v h = Contains-append_right (x ∷ []) xs v h

pub contains_none : {X : Type 0} (v : X) → Contains [] v → ⊥
contains_none v (k, lt, at) = omega (arith, lt)

pub contains_cases : {X : Type 0} (x : X) (xs : List X) (v : X) → Contains (x ∷ xs) v → (x ≡ v) ⊎ Contains xs v
contains_cases x xs v (zero, lt, at) = inl at
contains_cases x xs v (suc k, lt, at) = inr (k, omega arith, at)

pub at_from_contains : {X : Type 0} (xs : List X) (v : X) → Contains xs v → (k : ℕ) × (slice_get xs k ≡ Some v)
at_from_contains xs v (k, lt, at) = (k, slice_get-get_or xs k v lt ∙ ap Some at)

pub contains_from_at : {X : Type 0} (xs : List X) (k : ℕ) (v : X) → slice_get xs k ≡ Some v → Contains xs v
contains_from_at xs k v at = (k, slice_get_within xs k v at, get_or_from_slice_get xs k v v at)

pub contains_map : {X Y : Type 0} (f : X → Y) (xs : List X) (x : X) → Contains xs x → Contains (map f xs) (f x)
contains_map f [] x h = absurd (contains_none x h)
contains_map f (y ∷ xs) x h = elim (contains_cases y xs x h) [
  | inl e ↦ subst (λ z. Contains (f y ∷ map f xs) (f z)) e (contains_head (f y) (map f xs))
  | inr more ↦ contains_tail (f y) (map f xs) (f x) (contains_map f xs x more)
]

pub map_contains : {X Y : Type 0} (f : X → Y) (xs : List X) (v : Y) → Contains (map f xs) v → (x : X) × Contains xs x × (f x ≡ v)
map_contains f [] v h = absurd (contains_none v h)
map_contains f (y ∷ xs) v h = elim (contains_cases (f y) (map f xs) v h) [
  | inl e ↦ (y, contains_head y xs, e)
  | inr more ↦ let (x, in', e) = map_contains f xs v more in (x, contains_tail y xs x in', e)
]

pub map_same : (f g : ℕ → ℕ) (xs : List ℕ) → ((v : ℕ) → Contains xs v → f v ≡ g v) → map f xs ≡ map g xs
map_same f g [] h = refl
map_same f g (x ∷ xs) h = let e = h x (contains_head x xs) in let es = map_same f g xs (λ v is. h v (contains_tail x xs v is)) in cc

-- no level is above
pub above_le : (levels : List ℕ) (m : ℕ) → ((n : ℕ) → Contains levels n → n + 1 ≤ m) → above levels ≤ m
above_le [] m h = omega arith
above_le (n ∷ levels) m h = let a = h n (contains_head n levels) in let b = above_le levels m (λ v is. h v (contains_tail n levels v is)) in omega arith

pub above_ge : (levels : List ℕ) (n : ℕ) → Contains levels n → n + 1 ≤ above levels
above_ge [] n h = absurd (contains_none n h)
above_ge (m ∷ levels) n h = elim (contains_cases m levels n h) [
  | inl e ↦ omega arith
  | inr more ↦ let b = above_ge levels n more in omega arith
]

-- the same levels, in whatever order
pub above_same : (xs ys : List ℕ) → ((n : ℕ) → Contains xs n → Contains ys n) → ((n : ℕ) → Contains ys n → Contains xs n) → above xs ≡ above ys
above_same xs ys f g =
    let a = above_le xs (above ys) (λ n is. above_ge ys n (f n is)) in
    let b = above_le ys (above xs) (λ n is. above_ge xs n (g n is)) in
    omega arith

kept : {X : Type 0} (b : Bool) (y : X) (ys : List X) (x : X) → Contains ys x → Contains (cond b (y ∷ ys) ys) x
kept true y ys x h = contains_tail y ys x h
kept false y ys x h = h

pub contains_filter : {X : Type 0} (p : X → Bool) (xs : List X) (x : X) → Contains xs x → p x ≡ true → Contains (filter p xs) x
contains_filter p [] x h t = absurd (contains_none x h)
contains_filter p (y ∷ xs) x h t = elim (contains_cases y xs x h) [
  | inl e ↦ subst (λ b. Contains (cond b (y ∷ filter p xs) (filter p xs)) x) (sym (ap p e ∙ t)) (subst (Contains (y ∷ filter p xs)) e (contains_head y (filter p xs)))
  | inr more ↦ kept (p y) y (filter p xs) x (contains_filter p xs x more t)
]

filtered : {X : Type 0} (b : Bool) (y : X) (ys : List X) (x : X) → Contains (cond b (y ∷ ys) ys) x → ((b ≡ true) × (y ≡ x)) ⊎ Contains ys x
filtered true y ys x h = elim (contains_cases y ys x h) [ inl e ↦ inl (refl, e) | inr more ↦ inr more ]
filtered false y ys x h = inr h

pub filter_contains : {X : Type 0} (p : X → Bool) (xs : List X) (x : X) → Contains (filter p xs) x → Contains xs x × (p x ≡ true)
filter_contains p [] x h = absurd (contains_none x h)
filter_contains p (y ∷ xs) x h = elim (filtered (p y) y (filter p xs) x h) [
  | inl here ↦ (subst (Contains (y ∷ xs)) here.1 (contains_head y xs), subst (λ z. p z ≡ true) here.1 here.0)
  | inr more ↦ let (is, t) = filter_contains p xs x more in (contains_tail y xs x is, t)
]

-- the element behind one of a map
pub mapped_at : {X Y : Type 0} (f : X → Y) (xs : List X) (k : ℕ) (d : Y) → k < length (map f xs) → (x : X) × (slice_get xs k ≡ Some x) × (get_or (map f xs) k d ≡ f x)
mapped_at f [] k d lt = absurd (omega arith)
mapped_at f (x ∷ xs) zero d lt = (x, refl, refl)
mapped_at f (x ∷ xs) (suc k) d lt = mapped_at f xs k d (omega arith)

pub all_from_at : {X : Type 0} (P : X → Type 0) (xs : List X) → ((k : ℕ) (x : X) → slice_get xs k ≡ Some x → P x) → All P xs
all_from_at P xs h k d lt = h k (get_or xs k d) (slice_get-get_or xs k d lt)

pub all_at : {X : Type 0} (P : X → Type 0) (xs : List X) → All P xs → (k : ℕ) (x : X) → slice_get xs k ≡ Some x → P x
all_at P xs h k x at = subst P (get_or_from_slice_get xs k x x at) (h k x (slice_get_within xs k x at))

pub pair_at : {X : Type 0} (R : X → X → Type 0) (xs : List X) → AllPairs R xs → (i j : ℕ) (a b : X) → i < j → slice_get xs i ≡ Some a → slice_get xs j ≡ Some b → R a b
pair_at R xs h i j a b lt x y = subst (R a) (get_or_from_slice_get xs j b a y) (subst (λ z. R z (get_or xs j a)) (get_or_from_slice_get xs i a a x) (h i j a lt (slice_get_within xs j b y)))

pub pairs_from_at : {X : Type 0} (R : X → X → Type 0) (xs : List X) → ((i j : ℕ) (a b : X) → i < j → slice_get xs i ≡ Some a → slice_get xs j ≡ Some b → R a b) → AllPairs R xs
pairs_from_at R xs h i j d lt in' = h i j (get_or xs i d) (get_or xs j d) lt (slice_get-get_or xs i d (omega arith)) (slice_get-get_or xs j d in')

pub zip_push : {A B : Type 0} (R : A → B → Type 0) (xs : List A) (ys : List B) (x : A) (y : B) → AllZip R xs ys → R x y → AllZip R (xs ++ x ∷ []) (ys ++ y ∷ [])
zip_push R [] [] x y h r = (r, h)
zip_push R [] (b ∷ ys) x y h r = absurd h
zip_push R (a ∷ xs) [] x y h r = absurd h
zip_push R (a ∷ xs) (b ∷ ys) x y h r = (h.0, zip_push R xs ys x y h.1 r)

pub zip_more : {A B : Type 0} (R : A → B → Type 0) (xs : List A) (ys : List B) (i : ℕ) (x : A) (y : B) → i < length xs → x ≡ get_or xs i x → AllZip R (take i xs) ys → R x y → AllZip R (take (i + 1) xs) (ys ++ y ∷ [])
zip_more R xs ys i x y lt at h r = subst (λ zs. AllZip R zs (ys ++ y ∷ [])) (sym (take_more xs i x lt ∙ ap (λ z. take i xs ++ z ∷ []) (sym at))) (zip_push R (take i xs) ys x y h r)

pub zip_left : {A B : Type 0} (R : A → B → Type 0) (xs : List A) (ys : List B) → AllZip R xs ys → (k : ℕ) (x : A) → slice_get xs k ≡ Some x → (y : B) × (slice_get ys k ≡ Some y) × R x y
zip_left R [] ys h k x at = cc
zip_left R (a ∷ xs) [] h k x at = absurd h
zip_left R (a ∷ xs) (b ∷ ys) h zero x at = let e : a ≡ x = cc in (b, refl, subst (λ z. R z b) e h.0)
zip_left R (a ∷ xs) (b ∷ ys) h (suc k) x at = zip_left R xs ys h.1 k x at

pub zip_right : {A B : Type 0} (R : A → B → Type 0) (xs : List A) (ys : List B) → AllZip R xs ys → (k : ℕ) (y : B) → slice_get ys k ≡ Some y → (x : A) × (slice_get xs k ≡ Some x) × R x y
zip_right R xs [] h k y at = cc
zip_right R [] (b ∷ ys) h k y at = absurd h
zip_right R (a ∷ xs) (b ∷ ys) h zero y at = let e : b ≡ y = cc in (a, refl, subst (λ z. R a z) e h.0)
zip_right R (a ∷ xs) (b ∷ ys) h (suc k) y at = zip_right R xs ys h.1 k y at

-- one node more was read from a list
pub map_more : {X : Type 0} (f : X → ℕ) (list : List ℕ) (xs new : List X) (i : ℕ) (x : X) → i < length list → map f xs ≡ take i list → new ≡ xs ++ x ∷ [] → f x ≡ get_or list i 0 → map f new ≡ take (i + 1) list
map_more f list xs new i x lt before pushed is =
    ap (map f) pushed ∙ map-append f xs (x ∷ []) ∙ ap (λ m. m ++ f x ∷ []) before ∙ ap (λ y. take i list ++ y ∷ []) is ∙ sym (take_more list i 0 lt)

all_one : {X : Type 0} (P : X → Type 0) (x : X) → P x → All P (x ∷ [])
all_one P x h zero d lt = h
all_one P x h (suc k) d lt = absurd (omega arith)

-- one element more was put behind the others
pub all_more : {X : Type 0} (P : X → Type 0) (xs new : List X) (x : X) → All P xs → P x → new ≡ xs ++ x ∷ [] → All P new
all_more P xs new x all here pushed = subst (All P) (sym pushed) (All-append P xs (x ∷ []) all (all_one P x here))
