-- Texts among others.
use Rattle.std.proofs.Common.{◌≡◌, ℕ, Bool, true, false, ◌||◌, cond, List, [], ◌∷◌, Some, None, refl, sym, ◌∙◌, ap, subst, unwrap_or}
use Rattle.std.proofs.lemmas.List.Folds.{list_any-append}
use Rattle.std.proofs.lemmas.Slice.Eq.{bytes_eq-Decides}
use Rattle.std.specs.List.{flat_map, filter, find, AllByRecursion}
use Rattle.std.specs.Str.{bytes_eq}
use Rattle.pb_data.specs.OrderedSet.{is_mentioned}
use Rattle.pb_data.specs.Table.{last_value, names_of}

pub or_left : (x y : Bool) → x ≡ true → (x || y) ≡ true
or_left x y is = ap (λ r. r || y) is

pub or_right : (x y : Bool) → y ≡ true → (x || y) ≡ true
or_right true y is = refl
or_right false y is = is

-- what holds of each text among some holds of all
pub all_among : (P : List ℕ → Type 0) (texts : List (List ℕ)) → ((text : List ℕ) → is_mentioned texts text ≡ true → P text) → AllByRecursion P texts
all_among P [] each = tt
all_among P (text ∷ texts) each =
    (each text (or_left (bytes_eq text text) (is_mentioned texts text) ((bytes_eq-Decides text text).1 refl)), all_among P texts (λ other is. each other (or_right (bytes_eq other text) (is_mentioned texts other) is)))

-- and the other way round
pub one_among : (P : List ℕ → Type 0) (texts : List (List ℕ)) (text : List ℕ) → AllByRecursion P texts → is_mentioned texts text ≡ true → P text
one_among P [] text all is = absurd (cc)
one_among P (other ∷ texts) text all is = by (bytes_eq text other) refl is (one_among P texts text all.1)
  where
    by : (r : Bool) → bytes_eq text other ≡ r → (r || is_mentioned texts text) ≡ true → (is_mentioned texts text ≡ true → P text) → P text
    by true same is later = subst P (sym ((bytes_eq-Decides text other).0 same)) all.0
    by false same is later = later is

-- what one of some texts gives
pub among_each : (f : List ℕ → List (List ℕ)) (texts : List (List ℕ)) (text found : List ℕ) → is_mentioned texts text ≡ true → is_mentioned (f text) found ≡ true → is_mentioned (flat_map f texts) found ≡ true
among_each f [] text found is gives = absurd (cc)
among_each f (other ∷ texts) text found is gives = list_any-append (bytes_eq found) (f other) (flat_map f texts) ∙ by (bytes_eq text other) refl is (λ later. among_each f texts text found later gives)
  where
    by : (r : Bool) → bytes_eq text other ≡ r → (r || is_mentioned texts text) ≡ true → (is_mentioned texts text ≡ true → is_mentioned (flat_map f texts) found ≡ true) → (is_mentioned (f other) found || is_mentioned (flat_map f texts) found) ≡ true
    by true same is later = or_left (is_mentioned (f other) found) (is_mentioned (flat_map f texts) found) (ap (λ t. is_mentioned (f t) found) (sym ((bytes_eq-Decides text other).0 same)) ∙ gives)
    by false same is later = or_right (is_mentioned (f other) found) (is_mentioned (flat_map f texts) found) (later is)

-- what passes a test stays among those that do
pub among_kept : (test : List ℕ → Bool) (texts : List (List ℕ)) (text : List ℕ) → is_mentioned texts text ≡ true → test text ≡ true → is_mentioned (filter test texts) text ≡ true
among_kept test [] text is passes = absurd (cc)
among_kept test (other ∷ texts) text is passes = by (bytes_eq text other) refl is (λ later. among_kept test texts text later passes)
  where
    kept : (s : Bool) → is_mentioned (filter test texts) text ≡ true → is_mentioned (cond s (other ∷ filter test texts) (filter test texts)) text ≡ true
    kept true later = or_right (bytes_eq text other) (is_mentioned (filter test texts) text) later
    kept false later = later

    by : (r : Bool) → bytes_eq text other ≡ r → (r || is_mentioned texts text) ≡ true → (is_mentioned texts text ≡ true → is_mentioned (filter test texts) text ≡ true)
        → is_mentioned (cond (test other) (other ∷ filter test texts) (filter test texts)) text ≡ true
    by true same is later =
        ap (λ s. is_mentioned (cond s (other ∷ filter test texts) (filter test texts)) text) (ap test (sym ((bytes_eq-Decides text other).0 same)) ∙ passes)
        ∙ or_left (bytes_eq text other) (is_mentioned (filter test texts) text) same
    by false same is later = kept (test other) (later is)

-- where none is found that passes a test, none passes it
pub none_passes : (test : List ℕ → Bool) (texts : List (List ℕ)) (text : List ℕ) → find test texts ≡ None → is_mentioned texts text ≡ true → test text ≡ false
none_passes test [] text none is = absurd (cc)
none_passes test (other ∷ texts) text none is = at (test other) refl none (none_passes test texts text)
  where
    at : (s : Bool) → test other ≡ s → cond s (Some other) (find test texts) ≡ None → (find test texts ≡ None → is_mentioned texts text ≡ true → test text ≡ false) → test text ≡ false
    at true fails none later = absurd (cc)
    at false fails none later = by (bytes_eq text other) refl is
      where
        by : (r : Bool) → bytes_eq text other ≡ r → (r || is_mentioned texts text) ≡ true → test text ≡ false
        by true same is = ap test ((bytes_eq-Decides text other).0 same) ∙ fails
        by false same is = later none is

-- a text to which no entry gives a value is not among their names
pub not_named : {V : Type 0} (name : List ℕ) (entries : List (List ℕ × V)) → last_value name entries ≡ None → is_mentioned (names_of entries) name ≡ false
not_named name [] is = refl
not_named name (entry ∷ entries) is = by (bytes_eq name entry.0) is (not_named name entries)
  where
    by : (r : Bool) → cond r (Some (unwrap_or (last_value name entries) entry.1)) (last_value name entries) ≡ None → (last_value name entries ≡ None → is_mentioned (names_of entries) name ≡ false)
        → (r || is_mentioned (names_of entries) name) ≡ false
    by true is later = absurd (cc)
    by false is later = later is
