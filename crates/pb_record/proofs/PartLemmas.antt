-- Lemmas on parts of a text in turn, and lists of them.
use Rattle.std.proofs.Common.{◌≡◌, ◌<◌, ◌≤◌, ◌+◌, ◌^◌, ℕ, List, [], ◌∷◌, ◌++◌, length, take, slice_index_or, refl, sym, ◌∙◌, ap, subst, arith, rules, length-append, Bor, Option, Some, None, Result, Ok, Err}
use Rattle.std.specs.Prelude.{MatchOption, IfOk}
use Rattle.std.specs.List.{AllByRecursion, flat_map}
use Rattle.std.proofs.lemmas.List.{append_assoc, take_more}
use Rattle.pb_record.specs.Grammar.{number, listed, both}
use Rattle.pb_record.specs.Parts.{IsNumber, AreBoth}
use Rattle.pb_record.specs.Reading.{BeginsWith, StandsNone, IsSpelling, HasCount}
use Rattle.pb_record.proofs.NumberLemmas.{number_spelling}

-- one kind of part in place of another

pub stands_as : {A : Type 0} {P : A → Type 0} {f : A → List ℕ} {text : List ℕ} {x : A} {rest : List ℕ} (R : A → Type 0) → BeginsWith P f text x rest → R x → BeginsWith R f text x rest
stands_as R stands is = record { is = is; here = stands.here }

pub none_less : {A : Type 0} {P : A → Type 0} {f : A → List ℕ} {text : List ℕ} (R : A → Type 0) → StandsNone P f text → ((x : A) → R x → P x) → StandsNone R f text
none_less R none less = record { never = λ x rest stands. none.never x rest (record { is = less x stands.is; here = stands.here }) }

pub none_but : {A : Type 0} {P : A → Type 0} {f : A → List ℕ} {text : List ℕ} {x : A} {rest : List ℕ} (R : A → Type 0) → IsSpelling f → BeginsWith P f text x rest → (R x → ⊥) → StandsNone R f text
none_but {x = x} {rest = rest} R spelling there bad = record {
  never = λ y more stands.
      bad (subst R (spelling.apart y x more rest (sym stands.here ∙ there.here)).0 stands.is);
}

-- the same bytes as another kind of part, behind a front
pub stands_by : {A B : Type 0} {P : A → Type 0} {f : A → List ℕ} {text : List ℕ} {x : A} {rest : List ℕ} (R : B → Type 0) (g : B → List ℕ) (front : List ℕ) (y : B)
    → BeginsWith P f text x rest → R y → g y ≡ front ++ f x → BeginsWith R g (front ++ text) y rest
stands_by {f = f} {x = x} {rest = rest} R g front y stands is e =
    record { is = is; here = ap (λ t. front ++ t) stands.here ∙ sym (append_assoc front (f x) rest) ∙ ap (λ t. t ++ rest) (sym e) }

pub none_by : {A B : Type 0} {P : A → Type 0} {f : A → List ℕ} {text : List ℕ} (R : B → Type 0) (g : B → List ℕ) (k : B → A)
    → ((y : B) → R y → P (k y)) → ((y : B) → g y ≡ f (k y)) → StandsNone P f text → StandsNone R g text
none_by R g k is e none = record { never = λ y rest stands. none.never (k y) rest (record { is = is y stands.is; here = stands.here ∙ ap (λ t. t ++ rest) (e y) }) }

pub spelling_by : {A B : Type 0} (f : A → List ℕ) (g : B → List ℕ) (k : B → A) (h : A → B) → ((y : B) → h (k y) ≡ y) → ((y : B) → g y ≡ f (k y)) → IsSpelling f → IsSpelling g
spelling_by f g k h back e spelling = record {
  some = λ y. subst (λ t. 0 < length t) (sym (e y)) (spelling.some (k y));
  apart = λ x y rest more same.
      let parts = spelling.apart (k x) (k y) rest more (ap (λ t. t ++ rest) (sym (e x)) ∙ same ∙ ap (λ t. t ++ more) (e y)) in
      (sym (back x) ∙ ap h parts.0 ∙ back y, parts.1);
}

-- two parts in turn

both_apart : {A B : Type 0} (f : A → List ℕ) (g : B → List ℕ) → IsSpelling f → IsSpelling g → (x y : A × B) (rest more : List ℕ) → both f g x ++ rest ≡ both f g y ++ more → (x ≡ y) × (rest ≡ more)
both_apart f g one two (a, b) (c, d) rest more e =
    let whole : f a ++ (g b ++ rest) ≡ f c ++ (g d ++ more) = sym (append_assoc (f a) (g b) rest) ∙ e ∙ append_assoc (f c) (g d) more in
    let first = one.apart a c (g b ++ rest) (g d ++ more) whole in
    let second = two.apart b d rest more first.1 in
    (cc (first.0, second.0), second.1)

pub both_spelling : {A B : Type 0} (f : A → List ℕ) (g : B → List ℕ) → IsSpelling f → IsSpelling g → IsSpelling (both f g)
both_spelling f g one two = record {
  some = λ x. omega (arith, length-append (f x.0) (g x.1), one.some x.0);
  apart = both_apart f g one two;
}

pub stands_both : {A B : Type 0} {P : A → Type 0} {Q : B → Type 0} {f : A → List ℕ} {g : B → List ℕ} {text mid rest : List ℕ} {x : A} {y : B}
    → BeginsWith P f text x mid → BeginsWith Q g mid y rest → BeginsWith (AreBoth P Q) (both f g) text (x, y) rest
stands_both {f = f} {g = g} {rest = rest} {x = x} {y = y} one two = record {
  is = (one.is, two.is);
  here = one.here ∙ ap (λ t. f x ++ t) two.here ∙ sym (append_assoc (f x) (g y) rest);
}

pub none_first : {A B : Type 0} {P : A → Type 0} {f : A → List ℕ} {text : List ℕ} (Q : B → Type 0) (g : B → List ℕ) → StandsNone P f text → StandsNone (AreBoth P Q) (both f g) text
none_first {f = f} Q g none = record {
  never = λ p rest stands.
      none.never p.0 (g p.1 ++ rest) (record { is = stands.is.0; here = stands.here ∙ append_assoc (f p.0) (g p.1) rest });
}

pub none_second : {A B : Type 0} {P : A → Type 0} {Q : B → Type 0} {f : A → List ℕ} {g : B → List ℕ} {text mid : List ℕ} {x : A}
    → IsSpelling f → BeginsWith P f text x mid → StandsNone Q g mid → StandsNone (AreBoth P Q) (both f g) text
none_second {f = f} {g = g} {mid = mid} {x = x} spelling one none = record {
  never = λ p rest stands.
      let parts = spelling.apart x p.0 mid (g p.1 ++ rest) (sym one.here ∙ stands.here ∙ append_assoc (f p.0) (g p.1) rest) in
      none.never p.1 rest (record { is = stands.is.1; here = parts.1 });
}

-- lists

flat_apart : {A : Type 0} (f : A → List ℕ) → IsSpelling f → (xs ys : List A) (rest more : List ℕ) → length xs ≡ length ys → flat_map f xs ++ rest ≡ flat_map f ys ++ more → (xs ≡ ys) × (rest ≡ more)
flat_apart f spelling [] [] rest more same e = (refl, e)
flat_apart f spelling [] (y ∷ ys) rest more same e = absurd (omega arith)
flat_apart f spelling (x ∷ xs) [] rest more same e = absurd (omega arith)
flat_apart f spelling (x ∷ xs) (y ∷ ys) rest more same e =
    let whole : f x ++ (flat_map f xs ++ rest) ≡ f y ++ (flat_map f ys ++ more) = sym (append_assoc (f x) (flat_map f xs) rest) ∙ e ∙ append_assoc (f y) (flat_map f ys) more in
    let first = spelling.apart x y (flat_map f xs ++ rest) (flat_map f ys ++ more) whole in
    let others = flat_apart f spelling xs ys rest more (omega arith) first.1 in
    (cc (first.0, others.0), others.1)

pub list_spelling : {A : Type 0} (f : A → List ℕ) → IsSpelling f → IsSpelling (listed f)
unfolding listed
list_spelling f spelling = record {
  some = λ xs. omega (arith, length-append (number (length xs)) (flat_map f xs), number_spelling.some (length xs));
  apart = λ xs ys rest more e.
      let whole : number (length xs) ++ (flat_map f xs ++ rest) ≡ number (length ys) ++ (flat_map f ys ++ more) =
      sym (append_assoc (number (length xs)) (flat_map f xs) rest) ∙ e ∙ append_assoc (number (length ys)) (flat_map f ys) more in
      let first = number_spelling.apart (length xs) (length ys) (flat_map f xs ++ rest) (flat_map f ys ++ more) whole in
      flat_apart f spelling xs ys rest more first.0 first.1;
}

length-flat : {A : Type 0} (f : A → List ℕ) → IsSpelling f → (xs : List A) → length xs ≤ length (flat_map f xs)
length-flat f spelling [] = omega arith
length-flat f spelling (x ∷ xs) = omega (arith, length-flat f spelling xs, spelling.some x, length-append (f x) (flat_map f xs))

pub stands_list : {A : Type 0} {P : A → Type 0} {Q : ℕ → Type 0} {text mid rest : List ℕ} {n : ℕ} {xs : List A} (f : A → List ℕ)
    → BeginsWith Q number text n mid → BeginsWith (HasCount P n) (flat_map f) mid xs rest → BeginsWith (AllByRecursion P) (listed f) text xs rest
unfolding listed
stands_list {mid = mid} {rest = rest} {n = n} {xs = xs} f count items = record {
  is = items.is.0;
  here = count.here ∙ ap (λ k. number k ++ mid) (sym items.is.1) ∙ ap (λ t. number (length xs) ++ t) items.here ∙ sym (append_assoc (number (length xs)) (flat_map f xs) rest);
}

pub none_count : {A : Type 0} {text : List ℕ} (P : A → Type 0) (f : A → List ℕ) → IsSpelling f → length text < 2 ^ 64 → StandsNone IsNumber number text → StandsNone (AllByRecursion P) (listed f) text
unfolding listed
none_count {text = text} P f spelling small none = record {
  never = λ xs rest stands.
      let here : text ≡ number (length xs) ++ (flat_map f xs ++ rest) = stands.here ∙ append_assoc (number (length xs)) (flat_map f xs) rest in
      let whole = ap length here in
      let is : length xs < 2 ^ 64 = omega (arith, whole, length-flat f spelling xs, length-append (number (length xs)) (flat_map f xs ++ rest), length-append (flat_map f xs) rest) in
      none.never (length xs) (flat_map f xs ++ rest) (record { is = is; here = here });
}

pub none_items : {A : Type 0} {P : A → Type 0} {Q : ℕ → Type 0} {text mid : List ℕ} {n : ℕ} (f : A → List ℕ)
    → BeginsWith Q number text n mid → StandsNone (HasCount P n) (flat_map f) mid → StandsNone (AllByRecursion P) (listed f) text
unfolding listed
none_items {mid = mid} {n = n} f count none = record {
  never = λ xs rest stands.
      let parts = number_spelling.apart (length xs) n (flat_map f xs ++ rest) mid (sym (append_assoc (number (length xs)) (flat_map f xs) rest) ∙ sym stands.here ∙ count.here) in
      none.never xs rest (record { is = (stands.is, parts.0); here = sym parts.1 });
}

-- the items one by one

pub no_items : {A : Type 0} (P : A → Type 0) (f : A → List ℕ) (text : List ℕ) → BeginsWith (HasCount P 0) (flat_map f) text [] text
no_items P f text = record { is = (tt, refl); here = refl }

all_push : {A : Type 0} (P : A → Type 0) (xs : List A) (x : A) → AllByRecursion P xs → P x → AllByRecursion P (xs ++ x ∷ [])
all_push P [] x all is = (is, tt)
all_push P (y ∷ xs) x (first, all) is = (first, all_push P xs x all is)

flat_push : {A : Type 0} (f : A → List ℕ) (xs : List A) (x : A) → flat_map f (xs ++ x ∷ []) ≡ flat_map f xs ++ f x
flat_push f [] x = search (rules)
flat_push f (y ∷ xs) x = ap (λ t. f y ++ t) (flat_push f xs x) ∙ sym (append_assoc (f y) (flat_map f xs) (f x))

pub one_more : {A : Type 0} {P : A → Type 0} {f : A → List ℕ} {text mid rest : List ℕ} {xs : List A} {x : A} {n : ℕ} (ys : List A)
    → BeginsWith (HasCount P n) (flat_map f) text xs mid → BeginsWith P f mid x rest → ys ≡ xs ++ x ∷ [] → BeginsWith (HasCount P (n + 1)) (flat_map f) text ys rest
one_more {P = P} {f = f} {text = text} {mid = mid} {rest = rest} {xs = xs} {x = x} {n = n} ys so_far next e =
    subst (λ ys. BeginsWith (HasCount P (n + 1)) (flat_map f) text ys rest) (sym e) (record {
      is = (all_push P xs x so_far.is.0 next.is, omega (arith, length-append xs (x ∷ []), so_far.is.1));
      here = so_far.here ∙ ap (λ t. flat_map f xs ++ t) next.here ∙ sym (append_assoc (flat_map f xs) (f x) rest) ∙ ap (λ t. t ++ rest) (sym (flat_push f xs x));
    })

-- one part more of a list is written
pub wrote_more : {A : Type 0} (P : A → Type 0) (f : A → List ℕ) (xs : List A) (i : ℕ) (x : A) (before out new : List ℕ) → i < length xs → x ≡ slice_index_or xs i x
    → out ≡ before ++ flat_map f (take i xs) → AllByRecursion P (take i xs) → new ≡ out ++ f x → P x → (new ≡ before ++ flat_map f (take (i + 1) xs)) × AllByRecursion P (take (i + 1) xs)
wrote_more P f xs i x before out new lt at so_far are e is =
    let more : take (i + 1) xs ≡ take i xs ++ x ∷ [] = take_more xs i x lt ∙ ap (λ y. take i xs ++ y ∷ []) (sym at) in
    (rw (more, e, so_far, flat_push f (take i xs) x) (append_assoc before (flat_map f (take i xs)) (f x)), subst (AllByRecursion P) (sym more) (all_push P (take i xs) x are is))

-- after these items of the list the text goes on with another
goes_on : {A : Type 0} (P : A → Type 0) (f : A → List ℕ) → IsSpelling f → (xs ys : List A) (rest more : List ℕ) → length xs < length ys → AllByRecursion P ys
    → flat_map f xs ++ rest ≡ flat_map f ys ++ more → StandsNone P f rest → ⊥
goes_on P f spelling xs [] rest more less all e none = absurd (omega arith)
goes_on P f spelling [] (y ∷ ys) rest more less (is, all) e none = none.never y (flat_map f ys ++ more) (record { is = is; here = e ∙ append_assoc (f y) (flat_map f ys) more })
goes_on P f spelling (x ∷ xs) (y ∷ ys) rest more less (is, all) e none =
    let whole : f x ++ (flat_map f xs ++ rest) ≡ f y ++ (flat_map f ys ++ more) = sym (append_assoc (f x) (flat_map f xs) rest) ∙ e ∙ append_assoc (f y) (flat_map f ys) more in
    let first = spelling.apart x y (flat_map f xs ++ rest) (flat_map f ys ++ more) whole in
    goes_on P f spelling xs ys rest more (omega arith) all first.1 none

pub stops_short : {A : Type 0} {P : A → Type 0} {f : A → List ℕ} {text rest : List ℕ} {xs : List A} {i n : ℕ}
    → IsSpelling f → BeginsWith (HasCount P i) (flat_map f) text xs rest → i < n → StandsNone P f rest → StandsNone (HasCount P n) (flat_map f) text
stops_short {P = P} {f = f} {rest = rest} {xs = xs} spelling so_far less none = record {
  never = λ ys more stands.
      goes_on P f spelling xs ys rest more (omega (arith, so_far.is.1, stands.is.1)) stands.is.0 (sym so_far.here ∙ stands.here) none;
}

-- a list that is read item by item

pub list_read : {A E : Type 0} {text mid : List ℕ} {n : ℕ} (P : A → Type 0) (f : A → List ℕ) (r : Result (Option (List A × Bor (List ℕ))) E) → BeginsWith IsNumber number text n mid
    → IfOk r (λ found. MatchOption found (StandsNone (HasCount P n) (flat_map f) mid) (λ p. BeginsWith (HasCount P n) (flat_map f) mid p.0 p.1.now))
    → IfOk r (λ found. MatchOption found (StandsNone (AllByRecursion P) (listed f) text) (λ p. BeginsWith (AllByRecursion P) (listed f) text p.0 p.1.now))
list_read P f (Err e) count told = tt
list_read P f (Ok None) count told = none_items f count told
list_read P f (Ok (Some (xs, rest))) count told = stands_list f count told
