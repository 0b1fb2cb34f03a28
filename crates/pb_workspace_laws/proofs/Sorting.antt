-- Values that are put in their places by byte order of their names.
use Rattle.std.proofs.Common.{◌≡◌, ◌≢◌, ◌⊎◌, inl, inr, ◌∙◌, ℕ, zero, suc, Some, slice_get, List, [], ◌∷◌, map, Contains, refl, sym, ap, subst, Ordering, Less, Equal, Greater}
use Rattle.std.proofs.lemmas.Cmp.{nat_list_cmp_total}
use Rattle.std.proofs.lemmas.Option.{slice_get_within, get_or_from_slice_get}
use Rattle.std.specs.BTreeMap.{insert_entry}
use Rattle.std.specs.Cmp.Lexicographic.{slice_cmp}
use Rattle.std.specs.List.{AllByRecursion}
use Rattle.std.specs.List.Sorted.{IsStrictlySortedBy}
use Rattle.std.specs.Ordering.{nat_cmp, match_ordering, ordering_reverse}
use Rattle.pb_graph.proofs.Membership.{none, single, head, tail, cases}
use Rattle.pb_place_types.proofs.MapLemmas.{exact}

abbrev pub Name : Type 0
Name = List ℕ

abbrev pub cmp : Name → Name → Ordering
cmp = slice_cmp nat_cmp

abbrev pub Rises : List Name → Type 0
Rises names = IsStrictlySortedBy cmp names

-- no name is below itself, nor above
self_order : (o : Ordering) → o ≡ ordering_reverse o → o ≡ Equal
self_order Less e = cc
self_order Equal e = refl
self_order Greater e = cc

itself : (a : Name) → cmp a a ≡ Equal
itself a = self_order (cmp a a) (nat_list_cmp_total.antisymm a a)

pub below_apart : (a b : Name) → cmp a b ≡ Less → b ≢ a
below_apart a b less same = let no : Less ≡ Equal = sym less ∙ ap (cmp a) same ∙ itself a in cc

above_apart : (a b : Name) → cmp a b ≡ Greater → b ≢ a
above_apart a b more same = let no : Greater ≡ Equal = sym more ∙ ap (cmp a) same ∙ itself a in cc

turned : (a b : Name) → cmp a b ≡ Greater → cmp b a ≡ Less
turned a b more = nat_list_cmp_total.antisymm b a ∙ ap ordering_reverse more

beyond : (k x : Name) (ys : List Name) → cmp k x ≡ Less → AllByRecursion (λ y. cmp x y ≡ Less) ys → AllByRecursion (λ y. cmp k y ≡ Less) ys
beyond k x [] less all = tt
beyond k x (y ∷ ys) less all = (nat_list_cmp_total.trans k x y less all.0, beyond k x ys less all.1)

pub below_through : (a b c : Name) → cmp a b ≡ Less → cmp b c ≡ Less → cmp a c ≡ Less
below_through a b c first second = nat_list_cmp_total.trans a b c first second

-- of things in byte order of their keys, those of one key are one, and stand at one index
pub in_all : {A : Type 0} (key : A → Name) (P : Name → Type 0) (xs : List A) (x : A) → AllByRecursion P (map key xs) → Contains xs x → P (key x)
in_all key P [] x all there = absurd (none x there)
in_all key P (y ∷ xs) x all there = elim (cases y xs x there) [ inl here ↦ subst (λ z. P (key z)) here all.0 | inr later ↦ in_all key P xs x all.1 later ]

pub contained : {A : Type 0} (xs : List A) (n : ℕ) (x : A) → slice_get xs n ≡ Some x → Contains xs x
contained xs n x at = (n, slice_get_within xs n x at, get_or_from_slice_get xs n x x at)

pub one_of_key : {A : Type 0} (key : A → Name) (xs : List A) (a b : A) → Rises (map key xs) → Contains xs a → Contains xs b → key a ≡ key b → a ≡ b
unfolding IsStrictlySortedBy
one_of_key key [] a b up first second same = absurd (none a first)
one_of_key {A} key (x ∷ xs) a b up first second same = elim (cases x xs a first) [
  | inl here ↦ (elim (cases x xs b second) [
    | inl there ↦ sym here ∙ there
    | inr later ↦ absurd (below_apart (key x) (key b) (in_all key (λ y. cmp (key x) y ≡ Less) xs b up.0 later) (sym same ∙ ap key (sym here)))
  ])
  | inr later ↦ (elim (cases x xs b second) [
    | inl there ↦ absurd (below_apart (key x) (key a) (in_all key (λ y. cmp (key x) y ≡ Less) xs a up.0 later) (same ∙ ap key (sym there)))
    | inr behind ↦ one_of_key key xs a b up.1 later behind same
  ])
]

pub same_index : {A : Type 0} (key : A → Name) (xs : List A) (i j : ℕ) (a b : A) → Rises (map key xs) → slice_get xs i ≡ Some a → slice_get xs j ≡ Some b → key a ≡ key b → i ≡ j
unfolding IsStrictlySortedBy
same_index key [] i j a b up one other same = absurd (none a (contained [] i a one))
same_index key (x ∷ xs) zero zero a b up one other same = refl
same_index key (x ∷ xs) zero (suc j) a b up one other same =
    let here : x ≡ a = cc in
    absurd (below_apart (key x) (key b) (in_all key (λ y. cmp (key x) y ≡ Less) xs b up.0 (contained xs j b other)) (sym same ∙ ap key (sym here)))
same_index key (x ∷ xs) (suc i) zero a b up one other same =
    let here : x ≡ b = cc in
    absurd (below_apart (key x) (key a) (in_all key (λ y. cmp (key x) y ≡ Less) xs a up.0 (contained xs i a one)) (same ∙ ap key (sym here)))
same_index key (x ∷ xs) (suc i) (suc j) a b up one other same = ap suc (same_index key xs i j a b up.1 one other same)

module _ {V : Type 0} where
  abbrev pub names : List (Name × V) → List Name
  names es = map (λ (e : Name × V). e.0) es

  abbrev pub put : List (Name × V) → Name → V → List (Name × V)
  put es k v = insert_entry cmp es k v

  pub of_names : (P : Name → Type 0) (es : List (Name × V)) (e : Name × V) → AllByRecursion P (names es) → Contains es e → P e.0
  of_names P [] e all there = absurd (none e there)
  of_names P (f ∷ es) e all there = elim (cases f es e there) [
    | inl same ↦ subst (λ (x : Name × V). P x.0) same all.0
    | inr later ↦ of_names P es e all.1 later
  ]

  above : (x : Name) (es : List (Name × V)) (k : Name) (v : V) → AllByRecursion (λ y. cmp x y ≡ Less) (names es) → cmp x k ≡ Less → AllByRecursion (λ y. cmp x y ≡ Less) (names (put es k v))
  above x [] k v all less = (less, tt)
  above x (e ∷ es) k v all less = by (cmp k e.0) (above x es k v all.1 less)
    where
      by : (o : Ordering) → AllByRecursion (λ y. cmp x y ≡ Less) (names (put es k v)) → AllByRecursion (λ y. cmp x y ≡ Less) (names (match_ordering o ((k, v) ∷ e ∷ es) ((e.0, v) ∷ es) (e ∷ put es k v)))
      by Less rest = (less, all)
      by Equal rest = all
      by Greater rest = (all.0, rest)

  pub put_rises : (es : List (Name × V)) (k : Name) (v : V) → Rises (names es) → Rises (names (put es k v))
  unfolding IsStrictlySortedBy
  put_rises [] k v rises = (tt, tt)
  put_rises (e ∷ es) k v rises = by (cmp k e.0) refl (put_rises es k v rises.1)
    where
      by : (o : Ordering) → cmp k e.0 ≡ o → Rises (names (put es k v)) → Rises (names (match_ordering o ((k, v) ∷ e ∷ es) ((e.0, v) ∷ es) (e ∷ put es k v)))
      by Less at rest = ((at, beyond k e.0 (names es) at rises.0), rises)
      by Equal at rest = rises
      by Greater at rest = (above e.0 es k v rises.0 (turned k e.0 at), rest)

  pub put_new : (es : List (Name × V)) (k : Name) (v : V) → Contains (put es k v) (k, v)
  put_new [] k v = head (k, v) []
  put_new (e ∷ es) k v = by (cmp k e.0) refl (put_new es k v)
    where
      by : (o : Ordering) → cmp k e.0 ≡ o → Contains (put es k v) (k, v) → Contains (match_ordering o ((k, v) ∷ e ∷ es) ((e.0, v) ∷ es) (e ∷ put es k v)) (k, v)
      by Less at rest = head (k, v) (e ∷ es)
      by Equal at rest = subst (λ n. Contains ((e.0, v) ∷ es) (n, v)) (sym (exact k e.0 at)) (head (e.0, v) es)
      by Greater at rest = tail e (put es k v) (k, v) rest

  pub put_old : (es : List (Name × V)) (k : Name) (v : V) (f : Name × V) → Contains es f → f.0 ≢ k → Contains (put es k v) f
  put_old [] k v f there other = absurd (none f there)
  put_old (e ∷ es) k v f there other = by (cmp k e.0) refl (λ later. put_old es k v f later other)
    where
      by : (o : Ordering) → cmp k e.0 ≡ o → (Contains es f → Contains (put es k v) f) → Contains (match_ordering o ((k, v) ∷ e ∷ es) ((e.0, v) ∷ es) (e ∷ put es k v)) f
      by Less at rest = tail (k, v) (e ∷ es) f there
      by Equal at rest = elim (cases e es f there) [
        | inl here ↦ absurd (other (ap (λ (x : Name × V). x.0) (sym here) ∙ sym (exact k e.0 at)))
        | inr later ↦ tail (e.0, v) es f later
      ]
      by Greater at rest = elim (cases e es f there) [
        | inl here ↦ subst (Contains (e ∷ put es k v)) here (head e (put es k v))
        | inr later ↦ tail e (put es k v) f (rest later)
      ]

  -- what stands there now is new, or is of another name and stood there before
  abbrev pub IsNewOrOld : List (Name × V) → Name → V → Name × V → Type 0
  IsNewOrOld es k v f = ((k, v) ≡ f) ⊎ ((f.0 ≢ k) × Contains es f)

  pub put_from : (es : List (Name × V)) (k : Name) (v : V) (f : Name × V) → Rises (names es) → Contains (put es k v) f → IsNewOrOld es k v f
  unfolding IsStrictlySortedBy
  put_from [] k v f rises there = inl (single (k, v) f there)
  put_from (e ∷ es) k v f rises there = by (cmp k e.0) refl there (put_from es k v f rises.1)
    where
      by : (o : Ordering) → cmp k e.0 ≡ o → Contains (match_ordering o ((k, v) ∷ e ∷ es) ((e.0, v) ∷ es) (e ∷ put es k v)) f → (Contains (put es k v) f → IsNewOrOld es k v f) → IsNewOrOld (e ∷ es) k v f
      by Less at is rest = elim (cases (k, v) (e ∷ es) f is) [
        | inl here ↦ inl here
        | inr later ↦ inr (below_apart k f.0 (of_names (λ y. cmp k y ≡ Less) (e ∷ es) f (at, beyond k e.0 (names es) at rises.0) later), later)
      ]
      by Equal at is rest = elim (cases (e.0, v) es f is) [
        | inl here ↦ inl (ap (λ n. (n, v)) (exact k e.0 at) ∙ here)
        | inr later ↦ inr (λ same. below_apart e.0 f.0 (of_names (λ y. cmp e.0 y ≡ Less) es f rises.0 later) (same ∙ exact k e.0 at), tail e es f later)
      ]
      by Greater at is rest = elim (cases e (put es k v) f is) [
        | inl here ↦ inr (λ same. above_apart k e.0 at (ap (λ (x : Name × V). x.0) here ∙ same), subst (Contains (e ∷ es)) here (head e es))
        | inr later ↦ (elim (rest later) [ inl new ↦ inl new | inr old ↦ inr (old.0, tail e es f old.1) ])
      ]
