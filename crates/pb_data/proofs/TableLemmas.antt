-- Lemmas on tables.
use Rattle.std.proofs.Common.{◌≡◌, ℕ, ◌||◌, Bool, true, false, List, [], ◌∷◌, ◌++◌, Option, Some, None, unwrap_or, refl, sym, ◌∙◌, ap, if◌then◌else◌, cond}
use Rattle.std.proofs.lemmas.Slice.Eq.{bytes_eq-Decides}
use Rattle.std.specs.Str.{bytes_eq}
use Rattle.pb_data.specs.OrderedSet.{is_mentioned, mentioned, mentioned_all, once}
use Rattle.pb_data.specs.Table.{value_at, with_entry, with_entries, table_of, names_of, last_value}
use Rattle.pb_data.proofs.MentionLemmas.{mentioned_all-once, bytes_eq_comm}

-- a value, or else another
abbrev pub or_else : {V : Type 0} → Option V → Option V → Option V
or_else None other = other
or_else (Some v) other = Some v

module _ {V : Type 0} where
  names-with_entry : (entries : List (List ℕ × V)) (name : List ℕ) (value : V) → names_of (with_entry entries name value) ≡ mentioned (names_of entries) name
  names-with_entry [] name value = refl
  names-with_entry (e ∷ entries) name value = by (bytes_eq name e.0) refl (names-with_entry entries name value)
    where
      onto : (r : Bool) → e.0 ∷ (if r then names_of entries else names_of entries ++ name ∷ []) ≡ (if r then e.0 ∷ names_of entries else e.0 ∷ names_of entries ++ name ∷ [])
      onto true = refl
      onto false = refl

      by : (r : Bool) → bytes_eq name e.0 ≡ r → names_of (with_entry entries name value) ≡ mentioned (names_of entries) name → names_of (with_entry (e ∷ entries) name value) ≡ mentioned (names_of (e ∷ entries)) name
      by true is later =
          ap (λ r. names_of (if r then (e.0, value) ∷ entries else e ∷ with_entry entries name value)) is
          ∙ ap (λ r. if r || is_mentioned (names_of entries) name then names_of (e ∷ entries) else names_of (e ∷ entries) ++ name ∷ []) (sym is)
      by false is later =
          ap (λ r. names_of (if r then (e.0, value) ∷ entries else e ∷ with_entry entries name value)) is ∙ ap (λ ns. e.0 ∷ ns) later
          ∙ onto (is_mentioned (names_of entries) name)
          ∙ ap (λ r. if r || is_mentioned (names_of entries) name then names_of (e ∷ entries) else names_of (e ∷ entries) ++ name ∷ []) (sym is)

  names-with_entries : (entries more : List (List ℕ × V)) → names_of (with_entries entries more) ≡ mentioned_all (names_of entries) (names_of more)
  names-with_entries entries [] = refl
  names-with_entries entries (e ∷ more) = names-with_entries (with_entry entries e.0 e.1) more ∙ ap (λ ns. mentioned_all ns (names_of more)) (names-with_entry entries e.0 e.1)

  pub names-table_of : (entries : List (List ℕ × V)) → names_of (table_of entries) ≡ once (names_of entries)
  names-table_of entries = names-with_entries [] entries ∙ mentioned_all-once (names_of entries)

  value-with_entry : (entries : List (List ℕ × V)) (name : List ℕ) (value : V) (other : List ℕ) → value_at other (with_entry entries name value) ≡ (if bytes_eq other name then Some value else value_at other entries)
  value-with_entry [] name value other = refl
  value-with_entry (e ∷ entries) name value other = by (bytes_eq name e.0) refl (value-with_entry entries name value other)
    where
      same : (r : Bool) → cond r (Some value) (value_at other entries) ≡ (if r then Some value else cond r (Some e.1) (value_at other entries))
      same true = refl
      same false = refl

      apart : (b : Bool) → bytes_eq other e.0 ≡ b → bytes_eq name e.0 ≡ false
          → cond b (Some e.1) (if bytes_eq other name then Some value else value_at other entries) ≡ (if bytes_eq other name then Some value else cond b (Some e.1) (value_at other entries))
      apart true at is =
          let here : other ≡ e.0 = (bytes_eq-Decides other e.0).0 at in
          let none : bytes_eq other name ≡ false = ap (λ o. bytes_eq o name) here ∙ bytes_eq_comm e.0 name ∙ is in
          sym (ap (λ r. if r then Some value else Some e.1) none)
      apart false at is = refl

      by : (r : Bool) → bytes_eq name e.0 ≡ r → value_at other (with_entry entries name value) ≡ (if bytes_eq other name then Some value else value_at other entries)
          → value_at other (with_entry (e ∷ entries) name value) ≡ (if bytes_eq other name then Some value else value_at other (e ∷ entries))
      by true is later =
          let one : name ≡ e.0 = (bytes_eq-Decides name e.0).0 is in
          ap (λ r. value_at other (if r then (e.0, value) ∷ entries else e ∷ with_entry entries name value)) is ∙ same (bytes_eq other e.0)
          ∙ ap (λ n. if bytes_eq other n then Some value else value_at other (e ∷ entries)) (sym one)
      by false is later =
          ap (λ r. value_at other (if r then (e.0, value) ∷ entries else e ∷ with_entry entries name value)) is ∙ ap (λ v. cond (bytes_eq other e.0) (Some e.1) v) later
          ∙ apart (bytes_eq other e.0) refl is

  value-with_entries : (entries more : List (List ℕ × V)) (name : List ℕ) → value_at name (with_entries entries more) ≡ or_else (last_value name more) (value_at name entries)
  value-with_entries entries [] name = refl
  value-with_entries entries (e ∷ more) name =
      value-with_entries (with_entry entries e.0 e.1) more name ∙ ap (or_else (last_value name more)) (value-with_entry entries e.0 e.1 name)
      ∙ last (bytes_eq name e.0) (last_value name more)
    where
      last : (r : Bool) (l : Option V) → or_else l (if r then Some e.1 else value_at name entries) ≡ or_else (if r then Some (unwrap_or l e.1) else l) (value_at name entries)
      last true None = refl
      last true (Some v) = refl
      last false l = refl

  pub value-table_of : (entries : List (List ℕ × V)) (name : List ℕ) → value_at name (table_of entries) ≡ last_value name entries
  value-table_of entries name = value-with_entries [] entries name ∙ alone (last_value name entries)
    where
      alone : (l : Option V) → or_else l None ≡ l
      alone None = refl
      alone (Some v) = refl

  pub with_entries-append : (entries xs ys : List (List ℕ × V)) → with_entries entries (xs ++ ys) ≡ with_entries (with_entries entries xs) ys
  with_entries-append entries [] ys = refl
  with_entries-append entries (x ∷ xs) ys = with_entries-append (with_entry entries x.0 x.1) xs ys
