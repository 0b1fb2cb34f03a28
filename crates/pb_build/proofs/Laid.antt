-- Two rows of units that are laid by the same rules are the same: those of the same units, by level and then by key, each with the places of what it needs.
use Rattle.std.proofs.Common.{◌≡◌, ◌∙◌, ◌↔◌, ◌⊎◌, ◌<◌, ◌≤◌, ◌+◌, ℕ, zero, suc, max, List, [], ◌∷◌, map, AllPairs, Contains, Option, Some, None, option_map, refl, sym, ap, ap₂, subst, inl, inr, arith, length, slice_get, slice_index_or}
use Rattle.std.specs.Cmp.Lexicographic.{slice_cmp}
use Rattle.std.specs.List.Sorted.{IsStrictlyIncreasing}
use Rattle.std.specs.Ordering.{nat_cmp}
use Rattle.std.specs.declared.cmp.Ordering.TheVariants.{Less}
use Rattle.std.proofs.lemmas.Cmp.{nat_list_cmp_total}
use Rattle.std.proofs.lemmas.List.Kept.{AllPairs-cons}
use Rattle.std.proofs.lemmas.Option.{slice_get-map, same_Some}
use Rattle.pb_build.proofs.Once.{first_or_rest, at_first, in_rest, same_ordered, same_numbers, text_never}

module _ {A B : Type 0} (f : A → B) where
  -- what is in the list of values is the value of an element, and the other way round
  pub map_has : (xs : List A) (b : B) → Contains (map f xs) b → (k : ℕ) × (a : A) × (slice_get xs k ≡ Some a) × (f a ≡ b)
  map_has [] b (k, within, at) = absurd (omega arith)
  map_has (x ∷ xs) b has = by (first_or_rest (f x) (map f xs) b has) (map_has xs b)
    where
      by : (b ≡ f x) ⊎ Contains (map f xs) b → (Contains (map f xs) b → (k : ℕ) × (a : A) × (slice_get xs k ≡ Some a) × (f a ≡ b)) → (k : ℕ) × (a : A) × (slice_get (x ∷ xs) k ≡ Some a) × (f a ≡ b)
      by (inl is) more = (0, x, refl, sym is)
      by (inr rest) more = let (k, a, at, is) = more rest in (suc k, a, at, is)

  pub map_gives : (xs : List A) (k : ℕ) (a : A) → slice_get xs k ≡ Some a → Contains (map f xs) (f a)
  map_gives [] k a at = let no : None ≡ Some a = at in cc
  map_gives (x ∷ xs) zero a at = subst (λ z. Contains (map f (x ∷ xs)) (f z)) (same_Some x a at) (at_first (f x) (map f xs))
  map_gives (x ∷ xs) (suc k) a at = in_rest (f x) (map f xs) (f a) (map_gives xs k a at)

  pub contains_map : (xs : List A) (a : A) → Contains xs a → Contains (map f xs) (f a)
  contains_map [] a (k, within, at) = absurd (omega arith)
  contains_map (x ∷ xs) a has = by (first_or_rest x xs a has) (contains_map xs a)
    where
      by : (a ≡ x) ⊎ Contains xs a → (Contains xs a → Contains (map f xs) (f a)) → Contains (map f (x ∷ xs)) (f a)
      by (inl is) more = subst (λ z. Contains (map f (x ∷ xs)) (f z)) (sym is) (at_first (f x) (map f xs))
      by (inr rest) more = in_rest (f x) (map f xs) (f a) (more rest)

  pub map_contains : (xs : List A) (b : B) → Contains (map f xs) b → (a : A) × Contains xs a × (f a ≡ b)
  map_contains [] b (k, within, at) = absurd (omega arith)
  map_contains (x ∷ xs) b has = by (first_or_rest (f x) (map f xs) b has) (map_contains xs b)
    where
      by : (b ≡ f x) ⊎ Contains (map f xs) b → (Contains (map f xs) b → (a : A) × Contains xs a × (f a ≡ b)) → (a : A) × Contains (x ∷ xs) a × (f a ≡ b)
      by (inl is) more = (x, at_first x xs, sym is)
      by (inr rest) more = let (a, has, is) = more rest in (a, in_rest x xs a has, is)

  -- an order of values orders the list of them
  module _ (R : B → B → Type 0) where
    after_first : (x : A) (xs : List A) → AllPairs (λ a b. R (f a) (f b)) (x ∷ xs) → (a : A) → Contains xs a → R (f x) (f a)
    after_first x xs pairs a (k, within, at) = let last : suc k < length (x ∷ xs) = omega arith in let first : 0 < suc k = omega arith in subst (λ z. R (f x) (f z)) at (pairs 0 (suc k) a first last)

    rest_pairs : (x : A) (xs : List A) → AllPairs (λ a b. R (f a) (f b)) (x ∷ xs) → AllPairs (λ a b. R (f a) (f b)) xs
    rest_pairs x xs pairs i j d lt within = let later : suc i < suc j = omega arith in let last : suc j < length (x ∷ xs) = omega arith in pairs (suc i) (suc j) d later last

    pub pairs_map : (xs : List A) → AllPairs (λ a b. R (f a) (f b)) xs → AllPairs R (map f xs)
    pairs_map [] pairs = λ i j d lt within. absurd (omega (arith, within))
    pairs_map (x ∷ xs) pairs =
        AllPairs-cons R (f x) (map f xs)
        (λ k d within. let (a, has, is) = map_contains xs (slice_index_or (map f xs) k d) (k, within, at_itself (map f xs) k d within) in subst (R (f x)) is (after_first x xs pairs a has))
        (pairs_map xs (rest_pairs x xs pairs))
      where
        at_itself : (ys : List B) (k : ℕ) (d : B) → k < length ys → slice_index_or ys k (slice_index_or ys k d) ≡ slice_index_or ys k d
        at_itself [] k d within = absurd (omega arith)
        at_itself (y ∷ ys) zero d within = refl
        at_itself (y ∷ ys) (suc k) d within = at_itself ys k d (omega arith)

-- Units that are laid in a row: `above` is one more than the greatest of some numbers; `level_at` is the level at an index; a unit needs others.
module _ {X U : Type 0} (unit : X → U) (key : U → List ℕ) (level : X → ℕ) (needs : X → List ℕ) (Need : U → U → Type 0) (above : List ℕ → ℕ) (level_at : List X → ℕ → ℕ)
    (above_none : above [] ≡ 0) (above_more : (n : ℕ) (ns : List ℕ) → above (n ∷ ns) ≡ max (n + 1) (above ns))
    (level_is : (xs : List X) (k : ℕ) (x : X) → slice_get xs k ≡ Some x → level_at xs k ≡ level x) where
  greater : (ns : List ℕ) (n : ℕ) → Contains ns n → n < above ns
  greater [] n (k, within, at) = absurd (omega arith)
  greater (m ∷ ms) n has = by (first_or_rest m ms n has) (greater ms n)
    where
      by : (n ≡ m) ⊎ Contains ms n → (Contains ms n → n < above ms) → n < above (m ∷ ms)
      by (inl is) more = let e = above_more m ms in omega (arith, is, e)
      by (inr rest) more = let e = above_more m ms in let lt = more rest in omega (arith, lt, e)

  least : (ns : List ℕ) (m : ℕ) → ((n : ℕ) → Contains ns n → n < m) → above ns ≤ m
  least [] m all = omega (arith, above_none)
  least (n ∷ ns) m all =
      let first = all n (at_first n ns) in
      let rest = least ns m (λ k has. all k (in_rest n ns k has)) in
      let e = above_more n ns in omega (arith, first, rest, e)

  above_same : (ms ns : List ℕ) → ((n : ℕ) → Contains ms n → Contains ns n) → ((n : ℕ) → Contains ns n → Contains ms n) → above ms ≡ above ns
  above_same ms ns to from =
      let one = least ms (above ns) (λ n has. greater ns n (to n has)) in
      let other = least ns (above ms) (λ n has. greater ms n (from n has)) in omega (arith, one, other)

  -- the level of each is above those of what it needs
  abbrev pub HasLevels : List X → Type 0
  HasLevels xs = (k : ℕ) (x : X) → slice_get xs k ≡ Some x → level x ≡ above (map (level_at xs) (needs x))

  -- the places in the row of the units that are wanted for each
  abbrev pub HasIndices : (X → List ℕ) → (U → U → Type 0) → List X → Type 0
  HasIndices wanted Wanted xs = (k : ℕ) (x : X) → slice_get xs k ≡ Some x → (index : ℕ) → Contains (wanted x) index ↔ ((y : X) × (slice_get xs index ≡ Some y) × Wanted (unit x) (unit y))

  -- by level, and then by key
  abbrev pub Earlier : ℕ × U → ℕ × U → Type 0
  Earlier a b = (a.0 < b.0) ⊎ ((a.0 ≡ b.0) × (slice_cmp nat_cmp (key a.1) (key b.1) ≡ Less))

  -- each unit of the one row stands in the other
  abbrev pub HasUnits : List X → List X → Type 0
  HasUnits xs ys = (u : U) → Contains (map unit xs) u → Contains (map unit ys) u

  -- the levels of two rows up to some level are the same
  abbrev SameBelow : List X → List X → ℕ → Type 0
  SameBelow xs ys n = (k l : ℕ) (x y : X) → slice_get xs k ≡ Some x → slice_get ys l ≡ Some y → unit x ≡ unit y → level x < n → level x ≡ level y

  module _ (xs ys : List X) (levels : HasLevels xs) (levels' : HasLevels ys) (indices : HasIndices needs Need xs) (indices' : HasIndices needs Need ys) (to : HasUnits xs ys) (from : HasUnits ys xs) where
    -- what is needed has a lesser level
    lower : (k : ℕ) (x : X) → slice_get xs k ≡ Some x → (m : ℕ) → Contains (map (level_at xs) (needs x)) m → m < level x
    lower k x at m has = let lt = greater (map (level_at xs) (needs x)) m has in let e = levels k x at in omega (arith, lt, e)

    one_level : (n : ℕ) → SameBelow xs ys n → (k l : ℕ) (x y : X) → slice_get xs k ≡ Some x → slice_get ys l ≡ Some y → unit x ≡ unit y → level x < suc n → level x ≡ level y
    one_level n below k l x y at at' same lt = levels k x at ∙ above_same (map (level_at xs) (needs x)) (map (level_at ys) (needs y)) over back ∙ sym (levels' l y at')
      where
        over : (m : ℕ) → Contains (map (level_at xs) (needs x)) m → Contains (map (level_at ys) (needs y)) m
        over m has =
            let (index, in', is) = map_contains (level_at xs) (needs x) m has in
            let (r, at_r, need) = (indices k x at index).0 in' in
            let (l', s, at_s, same') = map_has unit ys (unit r) (to (unit r) (map_gives unit xs index r at_r)) in
            let less = lower k x at m has in
            let e = level_is xs index r at_r in
            let few : level r < n = omega (arith, less, lt, e, is) in
            let levels_same = below index l' r s at_r at_s (sym same') few in
            let need' : Need (unit y) (unit s) = subst (λ u. Need u (unit s)) same (subst (Need (unit x)) (sym same') need) in
            subst (Contains (map (level_at ys) (needs y))) (level_is ys l' s at_s ∙ sym levels_same ∙ sym e ∙ is) (contains_map (level_at ys) (needs y) l' ((indices' l y at' l').1 (s, at_s, need')))

        back : (m : ℕ) → Contains (map (level_at ys) (needs y)) m → Contains (map (level_at xs) (needs x)) m
        back m has =
            let (index, in', is) = map_contains (level_at ys) (needs y) m has in
            let (s, at_s, need) = (indices' l y at' index).0 in' in
            let (k', r, at_r, same') = map_has unit xs (unit s) (from (unit s) (map_gives unit ys index s at_s)) in
            let need' : Need (unit x) (unit r) = subst (λ u. Need u (unit r)) (sym same) (subst (Need (unit y)) (sym same') need) in
            let mine = contains_map (level_at xs) (needs x) k' ((indices k x at k').1 (r, at_r, need')) in
            let less = lower k x at (level_at xs k') mine in
            let e = level_is xs k' r at_r in
            let few : level r < n = omega (arith, less, lt, e) in
            let levels_same = below k' index r s at_r at_s same' few in
            subst (Contains (map (level_at xs) (needs x))) (e ∙ levels_same ∙ sym (level_is ys index s at_s) ∙ is) mine

    same_below : (n : ℕ) → SameBelow xs ys n
    same_below zero = λ k l x y at at' same lt. absurd (omega (arith, lt))
    same_below (suc n) = one_level n (same_below n)

    pub same_level : (k l : ℕ) (x y : X) → slice_get xs k ≡ Some x → slice_get ys l ≡ Some y → unit x ≡ unit y → level x ≡ level y
    same_level k l x y at at' same = let lt : level x < level x + 1 = omega arith in same_below (level x + 1) k l x y at at' same lt

  -- an order in which nothing comes before itself
  earlier_never : (a : ℕ × U) → Earlier a a → ⊥
  earlier_never a (inl lt) = omega (arith, lt)
  earlier_never a (inr both) = text_never (key a.1) both.1

  earlier_onward : (a b c : ℕ × U) → Earlier a b → Earlier b c → Earlier a c
  earlier_onward a b c (inl lt) (inl less) = inl (omega (arith, lt, less))
  earlier_onward a b c (inl lt) (inr both) = let e = both.0 in inl (omega (arith, lt, e))
  earlier_onward a b c (inr both) (inl lt) = let e = both.0 in inl (omega (arith, lt, e))
  earlier_onward a b c (inr one) (inr other) = inr (one.0 ∙ other.0, nat_list_cmp_total.trans (key a.1) (key b.1) (key c.1) one.1 other.1)

  abbrev pub ranked : X → ℕ × U
  ranked x = (level x, unit x)

  module _ (xs ys : List X) (levels : HasLevels xs) (levels' : HasLevels ys) (indices : HasIndices needs Need xs) (indices' : HasIndices needs Need ys) (to : HasUnits xs ys) (from : HasUnits ys xs)
      (order : AllPairs (λ x y. Earlier (ranked x) (ranked y)) xs) (order' : AllPairs (λ x y. Earlier (ranked x) (ranked y)) ys) where
    over_there : (q : ℕ × U) → Contains (map ranked xs) q → Contains (map ranked ys) q
    over_there q has =
        let (k, x, at, is) = map_has ranked xs q has in
        let (l, y, at', same) = map_has unit ys (unit x) (to (unit x) (map_gives unit xs k x at)) in
        let e = same_level xs ys levels levels' indices indices' to from k l x y at at' (sym same) in
        subst (Contains (map ranked ys)) (ap₂ (λ (n : ℕ) (u : U). (n, u)) (sym e) same ∙ is) (map_gives ranked ys l y at')

    back_here : (q : ℕ × U) → Contains (map ranked ys) q → Contains (map ranked xs) q
    back_here q has =
        let (l, y, at', is) = map_has ranked ys q has in
        let (k, x, at, same) = map_has unit xs (unit y) (from (unit y) (map_gives unit ys l y at')) in
        let e = same_level xs ys levels levels' indices indices' to from k l x y at at' same in
        subst (Contains (map ranked xs)) (ap₂ (λ (n : ℕ) (u : U). (n, u)) e same ∙ is) (map_gives ranked xs k x at)

    same_ranks : map ranked xs ≡ map ranked ys
    same_ranks = same_ordered Earlier earlier_never earlier_onward (map ranked xs) (map ranked ys) (pairs_map ranked Earlier xs order) (pairs_map ranked Earlier ys order') over_there back_here

    -- at each index of the one row there stands the same unit in the other
    pub same_index : (k : ℕ) (x : X) → slice_get xs k ≡ Some x → (y : X) × (slice_get ys k ≡ Some y) × (level x ≡ level y) × (unit x ≡ unit y)
    same_index k x at = at_other (slice_get ys k) refl (sym (slice_get-map ranked ys k) ∙ (sym (ap (λ zs. slice_get zs k) same_ranks) ∙ (slice_get-map ranked xs k ∙ ap (option_map ranked) at)))
      where
        at_other : (o : Option X) → slice_get ys k ≡ o → option_map ranked (slice_get ys k) ≡ Some (ranked x) → (y : X) × (slice_get ys k ≡ Some y) × (level x ≡ level y) × (unit x ≡ unit y)
        at_other None at' is = let no : None ≡ Some (ranked x) = sym (ap (option_map ranked) at') ∙ is in cc
        at_other (Some y) at' is =
            let same : ranked y ≡ ranked x = same_Some (ranked y) (ranked x) (sym (ap (option_map ranked) at') ∙ is) in
            (y, at', sym (ap (λ (r : ℕ × U). r.0) same), sym (ap (λ (r : ℕ × U). r.1) same))

    pub same_length : length xs ≡ length ys
    same_length = sym (length_of xs) ∙ ap length same_ranks ∙ length_of ys
      where
        length_of : (zs : List X) → length (map ranked zs) ≡ length zs
        length_of [] = refl
        length_of (z ∷ zs) = ap suc (length_of zs)

  -- the places of what is wanted, in order, are the same where the units of the two rows are
  pub same_wanted : (xs ys : List X) (wanted : X → List ℕ) (Wanted : U → U → Type 0)
      → ((k : ℕ) (x : X) → slice_get xs k ≡ Some x → (y : X) × (slice_get ys k ≡ Some y) × (level x ≡ level y) × (unit x ≡ unit y))
      → ((k : ℕ) (y : X) → slice_get ys k ≡ Some y → (x : X) × (slice_get xs k ≡ Some x) × (level y ≡ level x) × (unit y ≡ unit x))
      → HasIndices wanted Wanted xs → HasIndices wanted Wanted ys → (k : ℕ) (x y : X) → slice_get xs k ≡ Some x → slice_get ys k ≡ Some y → unit x ≡ unit y
      → IsStrictlyIncreasing (wanted x) → IsStrictlyIncreasing (wanted y) → wanted x ≡ wanted y
  same_wanted xs ys wanted Wanted same same' indices indices' k x y at at' is rises rises' =
      same_numbers (wanted x) (wanted y) rises rises'
      (λ index has.
      let (r, at_r, want) = (indices k x at index).0 has in
      let (s, at_s, level_s, unit_s) = same index r at_r in
      (indices' k y at' index).1 (s, at_s, subst (λ u. Wanted u (unit s)) is (subst (Wanted (unit x)) unit_s want)))
      (λ index has.
      let (s, at_s, want) = (indices' k y at' index).0 has in
      let (r, at_r, level_r, unit_r) = same' index s at_s in
      (indices k x at index).1 (r, at_r, subst (λ u. Wanted u (unit r)) (sym is) (subst (Wanted (unit y)) unit_r want)))

-- two lists that have the same at each index are the same
pub same_list : {X : Type 0} (xs ys : List X) → length xs ≡ length ys → ((k : ℕ) (x y : X) → slice_get xs k ≡ Some x → slice_get ys k ≡ Some y → x ≡ y) → xs ≡ ys
same_list [] [] e same = refl
same_list [] (y ∷ ys) e same = absurd (omega (arith, e))
same_list (x ∷ xs) [] e same = absurd (omega (arith, e))
same_list (x ∷ xs) (y ∷ ys) e same = let e' : length xs ≡ length ys = omega (arith, e) in ap₂ (λ z zs. z ∷ zs) (same 0 x y refl refl) (same_list xs ys e' (λ k. same (suc k)))
