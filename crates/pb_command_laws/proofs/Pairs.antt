-- Texts in order of their names: what stands among them was given, and what was given last stands among them.
use Rattle.std.proofs.Common.{◌≡◌, inl, inr, ℕ, Bool, true, false, cond, List, [], ◌∷◌, All, Contains, slice_get, Option, Some, None, unwrap_or, refl, sym, ◌∙◌, ap, subst}
use Rattle.std.proofs.lemmas.Option.{slice_get_within, get_or_from_slice_get}
use Rattle.std.proofs.lemmas.Slice.Eq.{bytes_eq-Decides}
use Rattle.std.proofs.lemmas.Map.Text.{is_eq-slice_cmp}
use Rattle.std.specs.Cmp.Lexicographic.{slice_cmp}
use Rattle.std.specs.List.{AllByRecursion}
use Rattle.std.specs.List.Sorted.{IsStrictlySortedBy}
use Rattle.std.specs.Ordering.{nat_cmp, is_eq}
use Rattle.std.specs.Str.{bytes_eq}
use Rattle.std.specs.declared.cmp.Ordering.TheVariants.{Less}
use Rattle.pb_graph.proofs.Membership.{none, head, tail, cases}
use Rattle.pb_command.proofs.Rising.{rising, last_counts}
use Rattle.pb_command_types.specs.NamedTexts.{in_order}
use Rattle.pb_data.proofs.MentionLemmas.{bytes_eq_comm, bytes_eq_same}
use Rattle.pb_data.specs.Table.{value_at, names_of, last_value}

abbrev pub Pair : Type 0
Pair = List ℕ × List ℕ

pub all_from : {A : Type 0} (P : A → Type 0) (xs : List A) → ((x : A) → Contains xs x → P x) → AllByRecursion P xs
all_from P [] each = tt
all_from P (x ∷ xs) each = (each x (head x xs), all_from P xs (λ y there. each y (tail x xs y there)))

-- what holds of each of a list holds of the one at an index
pub all_at : {A : Type 0} (P : A → Type 0) (xs : List A) (k : ℕ) (x : A) → All P xs → slice_get xs k ≡ Some x → P x
all_at P xs k x all at = subst P (get_or_from_slice_get xs k x x at) (all k x (slice_get_within xs k x at))

pub one_of_names : (P : List ℕ → Type 0) (pairs : List Pair) (pair : Pair) → AllByRecursion P (names_of pairs) → Contains pairs pair → P pair.0
one_of_names P [] pair all there = absurd (none pair there)
one_of_names P (other ∷ pairs) pair all there = elim (cases other pairs pair there) [
  | inl same ↦ subst (λ (x : Pair). P x.0) same all.0
  | inr later ↦ one_of_names P pairs pair all.1 later
]

-- a name that comes before another is another
apart : (name other : List ℕ) → slice_cmp nat_cmp name other ≡ Less → bytes_eq other name ≡ false
apart name other less = bytes_eq_comm other name ∙ sym (is_eq-slice_cmp name other) ∙ ap is_eq less

-- among names that rise, each is found with its own text
found : (pairs : List Pair) (pair : Pair) → IsStrictlySortedBy (slice_cmp nat_cmp) (names_of pairs) → Contains pairs pair → value_at pair.0 pairs ≡ Some pair.1
unfolding IsStrictlySortedBy
found [] pair rises there = absurd (none pair there)
found (other ∷ pairs) pair rises there = elim (cases other pairs pair there) [
  | inl same ↦ subst (λ (x : Pair). value_at x.0 (other ∷ pairs) ≡ Some x.1) same (ap (λ r. cond r (Some other.1) (value_at other.0 pairs)) (bytes_eq_same other.0))
  | inr later ↦ ap (λ r. cond r (Some other.1) (value_at pair.0 pairs)) (apart other.0 pair.0 (one_of_names (λ name. slice_cmp nat_cmp other.0 name ≡ Less) pairs pair rises.0 later)) ∙ found pairs pair rises.1 later
]

-- what is found stands there
stands : (name text : List ℕ) (pairs : List Pair) → value_at name pairs ≡ Some text → Contains pairs (name, text)
stands name text [] is = absurd (cc)
stands name text (pair ∷ pairs) is = by (bytes_eq name pair.0) refl is (stands name text pairs)
  where
    by : (r : Bool) → bytes_eq name pair.0 ≡ r → cond r (Some pair.1) (value_at name pairs) ≡ Some text → (value_at name pairs ≡ Some text → Contains pairs (name, text)) → Contains (pair ∷ pairs) (name, text)
    by true same is later =
        let here : pair.1 ≡ text = cc in
        let named : name ≡ pair.0 = (bytes_eq-Decides name pair.0).0 same in
        subst (Contains (pair ∷ pairs)) (λ i. (sym named i, here i)) (head pair pairs)
    by false same is later = tail pair pairs (name, text) (later is)

-- so does the last that is given
last_stands : (name text : List ℕ) (pairs : List Pair) → last_value name pairs ≡ Some text → Contains pairs (name, text)
last_stands name text [] is = absurd (cc)
last_stands name text (pair ∷ pairs) is = by (bytes_eq name pair.0) refl (last_value name pairs) refl is (last_stands name text pairs)
  where
    by : (r : Bool) → bytes_eq name pair.0 ≡ r → (last : Option (List ℕ)) → last_value name pairs ≡ last → cond r (Some (unwrap_or last pair.1)) last ≡ Some text
        → (last_value name pairs ≡ Some text → Contains pairs (name, text)) → Contains (pair ∷ pairs) (name, text)
    by true same None last is later =
        let here : pair.1 ≡ text = cc in
        let named : name ≡ pair.0 = (bytes_eq-Decides name pair.0).0 same in
        subst (Contains (pair ∷ pairs)) (λ i. (sym named i, here i)) (head pair pairs)
    by true same (Some other) last is later = let here : Some other ≡ Some text = cc in tail pair pairs (name, text) (later (last ∙ here))
    by false same last is_last is later = tail pair pairs (name, text) (later (is_last ∙ is))

-- what is given has a last text
some_last : (name text : List ℕ) (pairs : List Pair) → Contains pairs (name, text) → (last : List ℕ) × (last_value name pairs ≡ Some last)
some_last name text [] there = absurd (none (name, text) there)
some_last name text (pair ∷ pairs) there = elim (cases pair pairs (name, text) there) [
  | inl same ↦ (unwrap_or (last_value name pairs) pair.1, ap (λ r. cond r (Some (unwrap_or (last_value name pairs) pair.1)) (last_value name pairs)) (ap (λ (x : Pair). bytes_eq name x.0) same ∙ bytes_eq_same name))
  | inr later ↦ let (last, is) = some_last name text pairs later in by last is (bytes_eq name pair.0)
]
  where
    by : (last : List ℕ) → last_value name pairs ≡ Some last → (r : Bool) → (last : List ℕ) × (cond r (Some (unwrap_or (last_value name pairs) pair.1)) (last_value name pairs) ≡ Some last)
    by last is true = (last, ap (λ (l : Option (List ℕ)). Some (unwrap_or l pair.1)) is)
    by last is false = (last, is)

pub ordered_from : (pairs : List Pair) (pair : Pair) → Contains (in_order pairs) pair → Contains pairs pair
ordered_from pairs pair there = last_stands pair.0 pair.1 pairs (sym (last_counts pairs pair.0) ∙ found (in_order pairs) pair (rising pairs) there)

pub ordered_to : (pairs : List Pair) (name text : List ℕ) → Contains pairs (name, text) → (last : List ℕ) × Contains (in_order pairs) (name, last)
ordered_to pairs name text there =
    let (last, is) = some_last name text pairs there in
    (last, stands name last (in_order pairs) (last_counts pairs name ∙ is))
