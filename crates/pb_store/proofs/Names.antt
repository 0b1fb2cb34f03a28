-- The first name at which two rows of variables are not the same.
use Rattle.std.proofs.Common.{◌≡◌, ◌∙◌, ◌++◌, ◌&&◌, if◌then◌else◌, ℕ, Bool, true, false, Ordering, Less, Equal, Greater, List, [], ◌∷◌, Option, Some, None, refl, sym, ap, subst}
use Rattle.std.specs.Prelude.{MatchOption}
use Rattle.std.specs.Str.{bytes_eq}
use Rattle.std.specs.Ordering.{nat_cmp, is_lt, is_eq, ordering_reverse}
use Rattle.std.specs.Cmp.Lexicographic.{slice_cmp}
use Rattle.std.specs.FinMap.{find}
use Rattle.std.proofs.Math.Bool.{cond}
use Rattle.std.proofs.lemmas.Bool.{and_parts, and_from, false≢true}
use Rattle.std.proofs.lemmas.Cmp.{nat_list_cmp_total, tied_itself}
use Rattle.std.proofs.lemmas.Map.Text.{is_eq-slice_cmp}
use Rattle.std.proofs.lemmas.Slice.Eq.{bytes_eq-Decides}
use Rattle.pb_record.specs.Sorted.{are_sorted, leads}
use Rattle.pb_store.specs.Asking.{FirstNameIsFirst, IsFirstName, IsLeastName, IsNextName, first_name, lesser}

abbrev Pairs : Type 0
Pairs = List (List ℕ × List ℕ)

abbrev same : (List ℕ × List ℕ) → (List ℕ × List ℕ) → Bool
same x y = bytes_eq x.0 y.0 && bytes_eq x.1 y.1

pair_of : (x y : List ℕ × List ℕ) → x.0 ≡ y.0 → x.1 ≡ y.1 → x ≡ y
pair_of (a, b) (c, d) e f = cc (e, f)

alike : (x y : List ℕ × List ℕ) → same x y ≡ true → x ≡ y
alike x y e =
    let both = and_parts (bytes_eq x.0 y.0) (bytes_eq x.1 y.1) e in
    pair_of x y ((bytes_eq-Decides x.0 y.0).0 both.0) ((bytes_eq-Decides x.1 y.1).0 both.1)

itself : (x : List ℕ × List ℕ) → same x x ≡ true
itself x = and_from _ _ ((bytes_eq-Decides x.0 x.0).1 refl) ((bytes_eq-Decides x.1 x.1).1 refl)

-- past what is the same

past : (before after behind : Pairs) → first_name (before ++ after) (before ++ behind) ≡ first_name after behind
past [] after behind = refl
past (x ∷ before) after behind = ap (λ b. if b then first_name (before ++ after) (before ++ behind) else Some (lesser x.0 x.0)) (itself x) ∙ past before after behind

split : (b : Bool) (x y : List ℕ × List ℕ) (found : Option (List ℕ)) (name : List ℕ) → same x y ≡ b → (x ≡ y → ⊥) → name ≡ lesser x.0 y.0 → (if b then found else Some (lesser x.0 y.0)) ≡ Some name
split true x y found name is apart tells = absurd (apart (alike x y is))
split false x y found name is apart tells = ap Some (sym tells)

next_is : (after behind : Pairs) (name : List ℕ) → IsNextName after behind name → first_name after behind ≡ Some name
next_is [] [] name next = absurd next
next_is [] (y ∷ ys) name next = ap Some (sym next)
next_is (x ∷ xs) [] name next = ap Some (sym next)
next_is (x ∷ xs) (y ∷ ys) name (apart, tells) = split (same x y) x y (first_name xs ys) name refl apart tells

pub name_is : (row other : Pairs) (name : List ℕ) → IsFirstName row other name → first_name row other ≡ Some name
name_is row other name first =
    ap (λ p. first_name p other) first.split ∙ ap (λ q. first_name (first.before ++ first.after) q) first.other_split ∙ past first.before first.after first.behind ∙ next_is first.after first.behind name first.next

none_same : (row : Pairs) → first_name row row ≡ None
none_same [] = refl
none_same (x ∷ row) = ap (λ b. if b then first_name row row else Some (lesser x.0 x.0)) (itself x) ∙ none_same row

pub names_apart : (row other : Pairs) (name : List ℕ) → IsFirstName row other name → row ≡ other → ⊥
names_apart row other name first same =
    let some = name_is row other name first in
    let none = ap (λ r. first_name row r) (sym same) ∙ none_same row in
    cc

pub one_name : (row other : Pairs) (name second : List ℕ) → IsFirstName row other name → IsFirstName row other second → name ≡ second
one_name row other name second first also =
    let here = name_is row other name first in
    let there = name_is row other second also in
    cc

-- what is found is that name

abbrev Tells : Option (List ℕ) → Pairs → Pairs → Type 0
Tells found row other = MatchOption found (row ≡ other) (IsFirstName row other)

found_here : (row other : Pairs) (name : List ℕ) → IsNextName row other name → IsFirstName row other name
found_here row other name next = record { before = []; after = row; behind = other; split = refl; other_split = refl; next = next }

further : (x y : List ℕ × List ℕ) (xs ys : Pairs) (found : Option (List ℕ)) → x ≡ y → Tells found xs ys → Tells found (x ∷ xs) (y ∷ ys)
further x y xs ys None e told = cc
further x y xs ys (Some name) e told = record {
  before = x ∷ told.before;
  after = told.after;
  behind = told.behind;
  split = ap (λ r. x ∷ r) told.split;
  other_split = ap (λ a. a ∷ ys) (sym e) ∙ ap (λ r. x ∷ r) told.other_split;
  next = told.next;
}

not_same : (x y : List ℕ × List ℕ) → same x y ≡ false → x ≡ y → ⊥
not_same x y is e = false≢true (sym is ∙ subst (λ z. same x z ≡ true) e (itself x))

tells_by : (b : Bool) (x y : List ℕ × List ℕ) (xs ys : Pairs) → same x y ≡ b → Tells (first_name xs ys) xs ys → Tells (if b then first_name xs ys else Some (lesser x.0 y.0)) (x ∷ xs) (y ∷ ys)
tells_by true x y xs ys is told = further x y xs ys (first_name xs ys) (alike x y is) told
tells_by false x y xs ys is told = found_here (x ∷ xs) (y ∷ ys) (lesser x.0 y.0) (not_same x y is, refl)

tells : (row other : Pairs) → Tells (first_name row other) row other
tells [] [] = refl
tells [] (y ∷ ys) = found_here [] (y ∷ ys) y.0 refl
tells (x ∷ xs) [] = found_here (x ∷ xs) [] x.0 refl
tells (x ∷ xs) (y ∷ ys) = tells_by (same x y) x y xs ys refl (tells xs ys)

pub no_name : (row other : Pairs) → None ≡ first_name row other → row ≡ other
no_name row other is = subst (λ o. Tells o row other) (sym is) (tells row other)

pub is_name : (row other : Pairs) (name : List ℕ) → Some name ≡ first_name row other → IsFirstName row other name
is_name row other name is = subst (λ o. Tells o row other) (sym is) (tells row other)

pub ruleset name_laws = (no_name, is_name)

-- what two sorted rows say of names

abbrev cmp : List ℕ → List ℕ → Ordering
cmp = slice_cmp nat_cmp

abbrev at : List ℕ → Pairs → Option (List ℕ)
at name row = find cmp name row

less_is : (o : Ordering) → is_lt o ≡ true → o ≡ Less
less_is Less e = refl
less_is Equal e = cc
less_is Greater e = cc

passes : (name : List ℕ) (x : List ℕ × List ℕ) (row : Pairs) → cmp name x.0 ≡ Less → at name (x ∷ row) ≡ at name row
passes name x row less = ap (λ o. cond (is_eq o) (Some x.1) (at name row)) less

goes : (name : List ℕ) (x : List ℕ × List ℕ) (row : Pairs) → cmp name x.0 ≡ Greater → at name (x ∷ row) ≡ at name row
goes name x row more = ap (λ o. cond (is_eq o) (Some x.1) (at name row)) more

stops : (name : List ℕ) (x : List ℕ × List ℕ) (row : Pairs) → cmp name x.0 ≡ Equal → at name (x ∷ row) ≡ Some x.1
stops name x row same = ap (λ o. cond (is_eq o) (Some x.1) (at name row)) same

leads_on : (name : List ℕ) (x : List ℕ × List ℕ) (row : Pairs) → cmp name x.0 ≡ Less → leads x.0 row ≡ true → leads name row ≡ true
leads_on name x [] less leading = refl
leads_on name x (y ∷ row) less leading = ap is_lt (nat_list_cmp_total.trans name x.0 y.0 less (less_is (cmp x.0 y.0) leading))

absent : (name : List ℕ) (row : Pairs) → leads name row ≡ true → are_sorted row ≡ true → at name row ≡ None
absent name [] leading sorted = refl
absent name (x ∷ row) leading sorted =
    let less = less_is (cmp name x.0) leading in
    let parts = and_parts (leads x.0 row) (are_sorted row) sorted in
    passes name x row less ∙ absent name row (leads_on name x row less parts.0) parts.1

before_it : (name : List ℕ) (x : List ℕ × List ℕ) (row : Pairs) → cmp name x.0 ≡ Less → are_sorted (x ∷ row) ≡ true → at name (x ∷ row) ≡ None
before_it name x row less sorted = absent name (x ∷ row) (ap is_lt less) sorted

itself_tied : (name : List ℕ) → cmp name name ≡ Equal
itself_tied name = tied_itself nat_list_cmp_total name

one_only : (x : List ℕ × List ℕ) (xs other : Pairs) → are_sorted (x ∷ xs) ≡ true → (at x.0 other ≡ None) → ((less : List ℕ) → cmp less x.0 ≡ Less → at less other ≡ None) → IsLeastName (x ∷ xs) other x.0
one_only x xs other sorted none more = record {
  here = λ e. let some = stops x.0 x xs (itself_tied x.0) in cc;
  below = λ less lt. before_it less x xs lt sorted ∙ sym (more less lt);
}

turned : (row other : Pairs) (name : List ℕ) → IsLeastName row other name → IsLeastName other row name
turned row other name says = record { here = λ e. says.here (sym e); below = λ less lt. sym (says.below less lt) }

ahead_of : (x y : List ℕ × List ℕ) (xs ys : Pairs) → are_sorted (x ∷ xs) ≡ true → are_sorted (y ∷ ys) ≡ true → cmp x.0 y.0 ≡ Less → IsLeastName (x ∷ xs) (y ∷ ys) x.0
ahead_of x y xs ys sorted also less =
    one_only x xs (y ∷ ys) sorted (before_it x.0 y ys less also) (λ name lt. before_it name y ys (nat_list_cmp_total.trans name x.0 y.0 lt less) also)

named_alike : (x y : List ℕ × List ℕ) (xs ys : Pairs) → are_sorted (x ∷ xs) ≡ true → are_sorted (y ∷ ys) ≡ true → (x ≡ y → ⊥) → x.0 ≡ y.0 → IsLeastName (x ∷ xs) (y ∷ ys) x.0
named_alike x y xs ys sorted also apart names = record {
  here = λ e. apart (pair_of x y names (let one = stops x.0 x xs (itself_tied x.0) in let other = stops x.0 y ys (subst (λ n. cmp x.0 n ≡ Equal) names (itself_tied x.0)) in cc));
  below = λ less lt. before_it less x xs lt sorted ∙ sym (before_it less y ys (subst (λ n. cmp less n ≡ Less) names lt) also);
}

tied_is : (name other : List ℕ) → cmp name other ≡ Equal → name ≡ other
tied_is name other tied = (bytes_eq-Decides name other).0 (sym (is_eq-slice_cmp name other) ∙ ap is_eq tied)

heads_by : (o : Ordering) (x y : List ℕ × List ℕ) (xs ys : Pairs) → are_sorted (x ∷ xs) ≡ true → are_sorted (y ∷ ys) ≡ true → (x ≡ y → ⊥) → cmp y.0 x.0 ≡ o → IsLeastName (x ∷ xs) (y ∷ ys) (if is_lt o then y.0 else x.0)
heads_by Less x y xs ys sorted also apart is = turned (y ∷ ys) (x ∷ xs) y.0 (ahead_of y x ys xs also sorted is)
heads_by Equal x y xs ys sorted also apart is = named_alike x y xs ys sorted also apart (sym (tied_is y.0 x.0 is))
heads_by Greater x y xs ys sorted also apart is = ahead_of x y xs ys sorted also (nat_list_cmp_total.antisymm x.0 y.0 ∙ ap ordering_reverse is)

next_says : (row other : Pairs) (name : List ℕ) → are_sorted row ≡ true → are_sorted other ≡ true → IsNextName row other name → IsLeastName row other name
next_says [] [] name sorted also next = absurd next
next_says [] (y ∷ ys) name sorted also next = subst (IsLeastName [] (y ∷ ys)) (sym next) (turned (y ∷ ys) [] y.0 (one_only y ys [] also refl (λ less lt. refl)))
next_says (x ∷ xs) [] name sorted also next = subst (IsLeastName (x ∷ xs) []) (sym next) (one_only x xs [] sorted refl (λ less lt. refl))
next_says (x ∷ xs) (y ∷ ys) name sorted also next = subst (IsLeastName (x ∷ xs) (y ∷ ys)) (sym next.1) (heads_by (cmp y.0 x.0) x y xs ys sorted also next.0 refl)

no_leader : (name : List ℕ) (z : List ℕ × List ℕ) (row : Pairs) → cmp name z.0 ≡ Equal → are_sorted (z ∷ row) ≡ true → at name row ≡ None
no_leader name z row is sorted =
    let parts = and_parts (leads z.0 row) (are_sorted row) sorted in
    absent name row (subst (λ n. leads n row ≡ true) (sym (tied_is name z.0 is)) parts.0) parts.1

further_by : (o : Ordering) (z : List ℕ × List ℕ) (row other : Pairs) (name : List ℕ) → are_sorted (z ∷ row) ≡ true → are_sorted (z ∷ other) ≡ true → IsLeastName row other name → cmp name z.0 ≡ o → at name (z ∷ row) ≡ at name (z ∷ other) → ⊥
further_by Less z row other name sorted also says is e = says.here (sym (passes name z row is) ∙ e ∙ passes name z other is)
further_by Equal z row other name sorted also says is e = says.here (no_leader name z row is sorted ∙ sym (no_leader name z other is also))
further_by Greater z row other name sorted also says is e = says.here (sym (goes name z row is) ∙ e ∙ goes name z other is)

-- past a variable that both rows begin with
further_says : (z : List ℕ × List ℕ) (row other : Pairs) (name : List ℕ) → are_sorted (z ∷ row) ≡ true → are_sorted (z ∷ other) ≡ true → IsLeastName row other name → IsLeastName (z ∷ row) (z ∷ other) name
further_says z row other name sorted also says = record {
  here = further_by (cmp name z.0) z row other name sorted also says refl;
  below = λ less lt. ap (λ found. cond (is_eq (cmp less z.0)) (Some z.1) found) (says.below less lt);
}

by_prefix : (before after behind : Pairs) (name : List ℕ) → are_sorted (before ++ after) ≡ true → are_sorted (before ++ behind) ≡ true → IsNextName after behind name → IsLeastName (before ++ after) (before ++ behind) name
by_prefix [] after behind name sorted also next = next_says after behind name sorted also next
by_prefix (z ∷ before) after behind name sorted also next =
    further_says z (before ++ after) (before ++ behind) name sorted also
    (by_prefix before after behind name (and_parts (leads z.0 (before ++ after)) (are_sorted (before ++ after)) sorted).1 (and_parts (leads z.0 (before ++ behind)) (are_sorted (before ++ behind)) also).1 next)

pub first_is_first : FirstNameIsFirst
first_is_first row other name sorted also first =
    subst (λ r. IsLeastName r other name) (sym first.split)
    (subst (λ r. IsLeastName (first.before ++ first.after) r name) (sym first.other_split)
    (by_prefix first.before first.after first.behind name (subst (λ r. are_sorted r ≡ true) first.split sorted) (subst (λ r. are_sorted r ≡ true) first.other_split also) first.next))
