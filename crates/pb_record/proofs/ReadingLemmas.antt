-- The reading of a text is made here, part by part: at the front of a text a part is found, or there is none.
use Rattle.std.proofs.Common.{◌≡◌, ◌<◌, ◌≤◌, ◌^◌, ◌⊎◌, ℕ, zero, suc, Bool, true, false, List, [], ◌∷◌, ◌++◌, length, take, drop, refl, sym, ◌∙◌, ap, subst, arith, inl, inr, Option, Some, None, codes}
use Rattle.std.specs.Str.{IsUtf8, is_utf8, bytes_eq}
use Rattle.std.specs.Str.Parse.{digits_value}
use Rattle.std.specs.List.{AllByRecursion, flat_map}
use Rattle.std.proofs.lemmas.Bool.{cases_Bool, cases_eq, cases_lt}
use Rattle.std.proofs.lemmas.List.{append_assoc}
use Rattle.std.proofs.lemmas.Slice.Eq.{bytes_eq-Decides}
use Rattle.std.proofs.lemmas.Str.{IsUtf8-from_is_utf8, is_utf8-from_IsUtf8}
use Rattle.pb_place_types.specs.Paths.{is_path, is_relative}
use Rattle.pb_record.specs.Grammar.{line, decimals, number, block, listed, both, files, perhaps, input_bytes, asked_bytes}
use Rattle.pb_record.specs.Parts.{IsAny, IsNumber, IsUtf8Path, IsInside, AreBoth, IsPerhaps, AreFiles, ArePairs, IsInput, IsAsked, Says, ReadsAs, FindsAsReading}
use Rattle.pb_record.specs.Reading.{BeginsWith, StandsNone, IsSpelling, HasCount, HasNoFeed}
use Rattle.pb_record.specs.Sorted.{are_sorted}
use Rattle.pb_record.specs.Whole.{asked_of, numbered_of, copied_of}
use Rattle.pb_record.specs.declared.record.Record.{Record}
use Rattle.pb_record.proofs.NumberLemmas.{value_of_decimals, decimals_feed_free, one_line, no_line, number_spelling}
use Rattle.pb_record.proofs.BlockLemmas.{block_spelling, block_cut, stands_block, no_block_bytes}
use Rattle.pb_record.proofs.FrontLemmas.{begins, begins_not}
use Rattle.pb_record.proofs.PartLemmas.{stands_as, none_but, none_less, both_spelling, list_spelling, stands_both, none_first, none_second, stands_list, none_items, no_items}
use Rattle.pb_record.proofs.InputLemmas.{files_spelling, pairs_spelling, input_spelling, absent, present, neither, not_present, file_stands, tree_stands, value_stands, no_file, no_tree, no_value, no_letter}
use Rattle.pb_record.proofs.WholeLemmas.{asked_spelled, AreAsked, asked_spelling, asked_stands, not_asked, numbered_spelled, AreNumbered, numbered_spelling, copied_spelled, AreCopied, copied_spelling, is_whole, not_whole, none_whole, says_numbered, not_numbered, says_copied, not_copied, no_format, reads}

-- a part in front of a text, or none
abbrev Found : {A : Type 0} (Is : A → Type 0) (spelled : A → List ℕ) (text : List ℕ) → Type 0
Found {A = A} Is spelled text = ((x : A) × (rest : List ℕ) × BeginsWith Is spelled text x rest) ⊎ StandsNone Is spelled text

abbrev Finds : {A : Type 0} (Is : A → Type 0) (spelled : A → List ℕ) → Type 0
Finds Is spelled = (text : List ℕ) → Found Is spelled text

abbrev Tests : {A : Type 0} (Is : A → Type 0) → Type 0
Tests {A = A} Is = (x : A) → Is x ⊎ (Is x → ⊥)

-- what is tested

by_bool : {P : Type 0} (b : Bool) → (b ≡ true → P) → (P → b ≡ true) → P ⊎ (P → ⊥)
by_bool true yes' back = inl (yes' refl)
by_bool false yes' back = inr (λ p. let e = back p in cc)

two : {P Q : Type 0} → P ⊎ (P → ⊥) → Q ⊎ (Q → ⊥) → (P × Q) ⊎ (P × Q → ⊥)
two (inl p) (inl q) = inl (p, q)
two (inl p) (inr bad) = inr (λ both. bad both.1)
two (inr bad) other = inr (λ both. bad both.0)

same_texts : (a b : List ℕ) → (a ≡ b) ⊎ (a ≡ b → ⊥)
same_texts a b = by_bool (bytes_eq a b) (bytes_eq-Decides a b).0 (bytes_eq-Decides a b).1

is_true : (b : Bool) → (b ≡ true) ⊎ (b ≡ true → ⊥)
is_true b = by_bool b (λ e. e) (λ e. e)

test_text : Tests IsUtf8
test_text text = by_bool (is_utf8 text) (IsUtf8-from_is_utf8 text) (is_utf8-from_IsUtf8 text)

test_path : Tests IsUtf8Path
test_path path = two (is_true (is_path path)) (test_text path)

test_inside : Tests IsInside
test_inside path = two (is_true (is_relative path)) (test_text path)

test_number : Tests IsNumber
test_number n = below (cases_lt n (2 ^ 64))
  where
    below : (n < 2 ^ 64) ⊎ (2 ^ 64 ≤ n) → (n < 2 ^ 64) ⊎ (n < 2 ^ 64 → ⊥)
    below (inl less) = inl less
    below (inr more) = inr (λ less. absurd (omega (arith, less, more)))

-- a part that is more than was found
narrow : {A : Type 0} {P : A → Type 0} {f : A → List ℕ} (R : A → Type 0) → IsSpelling f → ((x : A) → R x → P x) → ((x : A) → P x → R x ⊎ (R x → ⊥)) → Finds P f → Finds R f
narrow {A = A} {P = P} {f = f} R spelling less test find text = by (find text)
  where
    tested : (x : A) (rest : List ℕ) → BeginsWith P f text x rest → R x ⊎ (R x → ⊥) → Found R f text
    tested x rest there (inl is) = inl (x, rest, stands_as R there is)
    tested x rest there (inr bad) = inr (none_but R spelling there bad)

    by : Found P f text → Found R f text
    by (inl (x, rest, there)) = tested x rest there (test x there.is)
    by (inr none) = inr (none_less R none less)

of_any : {A : Type 0} {f : A → List ℕ} (R : A → Type 0) → IsSpelling f → Tests R → Finds (IsAny {A = A}) f → Finds R f
of_any R spelling test find = narrow R spelling (λ x is. tt) (λ x any. test x) find

-- numbers

abbrev Split : List ℕ → Type 0
Split text = ((digits rest : List ℕ) × (text ≡ digits ++ 10 ∷ rest) × HasNoFeed digits) ⊎ HasNoFeed text

one_free : (b : ℕ) (text : List ℕ) → (b ≡ 10 → ⊥) → HasNoFeed text → HasNoFeed (b ∷ text)
one_free b text other free zero within = other
one_free b text other free (suc k) within = free k (omega (arith, within))

split : (text : List ℕ) → Split text
split [] = inr (λ k within. absurd (omega (arith, within)))
split (b ∷ text) = by (cases_eq b 10) (split text)
  where
    by : (b ≡ 10) ⊎ (b ≡ 10 → ⊥) → Split text → Split (b ∷ text)
    by (inl feed) more = inl ([], text, ap (λ c. c ∷ text) feed, λ k within. absurd (omega (arith, within)))
    by (inr other) (inl (digits, rest, cut, free)) = inl (b ∷ digits, rest, ap (λ t. b ∷ t) cut, one_free b digits other free)
    by (inr other) (inr free) = inr (one_free b text other free)

find_number : Finds IsAny number
unfolding number
find_number text = by (split text)
  where
    of_digits : (digits rest : List ℕ) → text ≡ digits ++ 10 ∷ rest → HasNoFeed digits → (digits ≡ decimals (digits_value 10 digits)) ⊎ (digits ≡ decimals (digits_value 10 digits) → ⊥) → Found IsAny number text
    of_digits digits rest cut free (inl same) = inl (
      digits_value 10 digits,
      rest,
      record {
        is = tt;
        here = cut ∙ ap (λ d. d ++ 10 ∷ rest) same ∙ sym (append_assoc (decimals (digits_value 10 digits)) (10 ∷ []) rest);
      },
    )
    of_digits digits rest cut free (inr other) = inr (record {
      never = λ n more stands.
          let lines : digits ++ 10 ∷ rest ≡ decimals n ++ 10 ∷ more = sym cut ∙ stands.here ∙ append_assoc (decimals n) (10 ∷ []) more in
          let same : digits ≡ decimals n = (one_line digits (decimals n) rest more free (decimals_feed_free n) lines).0 in
          other (same ∙ ap decimals (sym (ap (digits_value 10) same ∙ value_of_decimals n)));
    })

    by : Split text → Found IsAny number text
    by (inl (digits, rest, cut, free)) = of_digits digits rest cut free (same_texts digits (decimals (digits_value 10 digits)))
    by (inr free) = inr (record { never = λ n more stands. no_feed n more (stands.here ∙ append_assoc (decimals n) (10 ∷ []) more) })
      where
        no_feed : (n : ℕ) (more : List ℕ) → text ≡ decimals n ++ 10 ∷ more → ⊥
        no_feed n more e = no_line text free (decimals n) more e

-- blocks

abbrev Cut : ℕ → List ℕ → Type 0
Cut n text = ((bytes rest : List ℕ) × (length bytes ≡ n) × (text ≡ bytes ++ 10 ∷ rest)) ⊎ ((bytes rest : List ℕ) → length bytes ≡ n → text ≡ bytes ++ 10 ∷ rest → ⊥)

nothing_cut : (n : ℕ) (bytes rest : List ℕ) → length bytes ≡ n → [] ≡ bytes ++ 10 ∷ rest → ⊥
nothing_cut n [] rest len e = cc
nothing_cut n (c ∷ bytes) rest len e = cc

no_feed_cut : (b : ℕ) (text : List ℕ) → (b ≡ 10 → ⊥) → (bytes rest : List ℕ) → length bytes ≡ 0 → b ∷ text ≡ bytes ++ 10 ∷ rest → ⊥
no_feed_cut b text other [] rest len e = other (cc)
no_feed_cut b text other (c ∷ bytes) rest len e = absurd (omega (arith, len))

more_cut : (n b : ℕ) (text : List ℕ) → ((bytes rest : List ℕ) → length bytes ≡ n → text ≡ bytes ++ 10 ∷ rest → ⊥) → (bytes rest : List ℕ) → length bytes ≡ suc n → b ∷ text ≡ bytes ++ 10 ∷ rest → ⊥
more_cut n b text bad [] rest len e = absurd (omega (arith, len))
more_cut n b text bad (c ∷ bytes) rest len e = bad bytes rest (omega (arith, len)) (cc)

cut : (n : ℕ) (text : List ℕ) → Cut n text
cut zero [] = inr (nothing_cut 0)
cut (suc n) [] = inr (nothing_cut (suc n))
cut zero (b ∷ text) = by (cases_eq b 10)
  where
    by : (b ≡ 10) ⊎ (b ≡ 10 → ⊥) → Cut 0 (b ∷ text)
    by (inl feed) = inl ([], text, refl, ap (λ c. c ∷ text) feed)
    by (inr other) = inr (no_feed_cut b text other)
cut (suc n) (b ∷ text) = by (cut n text)
  where
    by : Cut n text → Cut (suc n) (b ∷ text)
    by (inl (bytes, rest, len, e)) = inl (b ∷ bytes, rest, omega (arith, len), ap (λ t. b ∷ t) e)
    by (inr bad) = inr (more_cut n b text bad)

find_block : Finds IsAny block
find_block text = by (find_number text)
  where
    of_count : (n : ℕ) (mid : List ℕ) → BeginsWith IsAny number text n mid → Cut n mid → Found IsAny block text
    of_count n mid count (inl (bytes, rest, len, e)) = inl (bytes, rest, stands_block bytes rest count len e)
    of_count n mid count (inr bad) = inr (no_block_bytes count bad)

    by : Found IsAny number text → Found IsAny block text
    by (inl (n, mid, count)) = of_count n mid count (cut n mid)
    by (inr none) = inr (record { never = λ bytes rest stands. none.never (length bytes) (bytes ++ 10 ∷ rest) (record { is = tt; here = stands.here ∙ block_cut bytes rest }) })

find_text : Finds IsUtf8 block
find_text = of_any IsUtf8 block_spelling test_text find_block

find_path : Finds IsUtf8Path block
find_path = of_any IsUtf8Path block_spelling test_path find_block

find_inside : Finds IsInside block
find_inside = of_any IsInside block_spelling test_inside find_block

find_small : Finds IsNumber number
find_small = of_any IsNumber number_spelling test_number find_number

-- two parts in turn, and lists

find_both : {A B : Type 0} {P : A → Type 0} {Q : B → Type 0} {f : A → List ℕ} {g : B → List ℕ} → IsSpelling f → Finds P f → Finds Q g → Finds (AreBoth P Q) (both f g)
find_both {A = A} {B = B} {P = P} {Q = Q} {f = f} {g = g} spelling first second text = by (first text)
  where
    then : (x : A) (mid : List ℕ) → BeginsWith P f text x mid → Found Q g mid → Found (AreBoth P Q) (both f g) text
    then x mid one (inl (y, rest, two')) = inl ((x, y), rest, stands_both one two')
    then x mid one (inr none) = inr (none_second spelling one none)

    by : Found P f text → Found (AreBoth P Q) (both f g) text
    by (inl (x, mid, one)) = then x mid one (second mid)
    by (inr none) = inr (none_first Q g none)

-- an item and the others
stands_more : {A : Type 0} {P : A → Type 0} {f : A → List ℕ} {text mid rest : List ℕ} {x : A} {xs : List A} (n : ℕ)
    → BeginsWith P f text x mid → BeginsWith (HasCount P n) (flat_map f) mid xs rest → BeginsWith (HasCount P (suc n)) (flat_map f) text (x ∷ xs) rest
stands_more {f = f} {rest = rest} {x = x} {xs = xs} n one others = record {
  is = ((one.is, others.is.0), omega (arith, others.is.1));
  here = one.here ∙ ap (λ t. f x ++ t) others.here ∙ sym (append_assoc (f x) (flat_map f xs) rest);
}

none_here : {A : Type 0} {P : A → Type 0} {f : A → List ℕ} {text : List ℕ} (n : ℕ) → StandsNone P f text → (xs : List A) (rest : List ℕ) → BeginsWith (HasCount P (suc n)) (flat_map f) text xs rest → ⊥
none_here n none [] rest stands = absurd (omega (arith, stands.is.1))
none_here {f = f} n none (x ∷ xs) rest stands = none.never x (flat_map f xs ++ rest) (record { is = stands.is.0.0; here = stands.here ∙ append_assoc (f x) (flat_map f xs) rest })

none_behind : {A : Type 0} {P : A → Type 0} {f : A → List ℕ} {text mid : List ℕ} {y : A} (n : ℕ) → IsSpelling f → BeginsWith P f text y mid → StandsNone (HasCount P n) (flat_map f) mid
    → (xs : List A) (rest : List ℕ) → BeginsWith (HasCount P (suc n)) (flat_map f) text xs rest → ⊥
none_behind n spelling one none [] rest stands = absurd (omega (arith, stands.is.1))
none_behind {f = f} {mid = mid} {y = y} n spelling one none (x ∷ xs) rest stands =
    let parts = spelling.apart y x mid (flat_map f xs ++ rest) (sym one.here ∙ stands.here ∙ append_assoc (f x) (flat_map f xs) rest) in
    none.never xs rest (record { is = (stands.is.0.1, omega (arith, stands.is.1)); here = parts.1 })

find_more : {A : Type 0} {P : A → Type 0} {f : A → List ℕ} → IsSpelling f → (n : ℕ) → Finds (HasCount P n) (flat_map f) → (text : List ℕ) → Found P f text → Found (HasCount P (suc n)) (flat_map f) text
find_more {A = A} {P = P} {f = f} spelling n others text (inr none) = inr (record { never = none_here n none })
find_more {A = A} {P = P} {f = f} spelling n others text (inl (x, mid, one)) = by (others mid)
  where
    by : Found (HasCount P n) (flat_map f) mid → Found (HasCount P (suc n)) (flat_map f) text
    by (inl (xs, rest, more)) = inl (x ∷ xs, rest, stands_more n one more)
    by (inr none) = inr (record { never = none_behind n spelling one none })

find_items : {A : Type 0} {P : A → Type 0} {f : A → List ℕ} → IsSpelling f → Finds P f → (n : ℕ) → Finds (HasCount P n) (flat_map f)
find_items {P = P} {f = f} spelling find zero text = inl ([], text, no_items P f text)
find_items spelling find (suc n) text = find_more spelling n (find_items spelling find n) text (find text)

find_list : {A : Type 0} {P : A → Type 0} {f : A → List ℕ} → IsSpelling f → Finds P f → Finds (AllByRecursion P) (listed f)
unfolding listed
find_list {A = A} {P = P} {f = f} spelling find text = by (find_number text)
  where
    then : (n : ℕ) (mid : List ℕ) → BeginsWith IsAny number text n mid → Found (HasCount P n) (flat_map f) mid → Found (AllByRecursion P) (listed f) text
    then n mid count (inl (xs, rest, items)) = inl (xs, rest, stands_list f count items)
    then n mid count (inr none) = inr (none_items f count none)

    by : Found IsAny number text → Found (AllByRecursion P) (listed f) text
    by (inl (n, mid, count)) = then n mid count (find_items spelling find n mid)
    by (inr none) = inr (record {
      never = λ xs rest stands.
          none.never (length xs) (flat_map f xs ++ rest) (record { is = tt; here = stands.here ∙ append_assoc (number (length xs)) (flat_map f xs) rest });
    })

-- fronts

abbrev Fronted : List ℕ → List ℕ → Type 0
Fronted front text = ((rest : List ℕ) × (text ≡ front ++ rest)) ⊎ ((rest : List ℕ) → text ≡ front ++ rest → ⊥)

find_front : (front text : List ℕ) → Fronted front text
find_front front text = by (cases_Bool (bytes_eq (take (length front) text) front))
  where
    by : (bytes_eq (take (length front) text) front ≡ true) ⊎ (bytes_eq (take (length front) text) front ≡ false) → Fronted front text
    by (inl same) = inl (drop (length front) text, begins front text (drop (length front) text) same refl)
    by (inr other) = inr (begins_not front text other)

-- values that may be absent, variables and inputs

find_perhaps : Finds IsPerhaps perhaps
find_perhaps text = by (find_front (line (codes "0")) text) (find_front (line (codes "1")) text)
  where
    then : (behind : List ℕ) → text ≡ line (codes "1") ++ behind → Found IsUtf8 block behind → Found IsPerhaps perhaps text
    then behind front (inl (x, rest, there)) = inl (Some x, rest, present text behind rest x front there)
    then behind front (inr none) = inr (not_present text behind front none)

    by : Fronted (line (codes "0")) text → Fronted (line (codes "1")) text → Found IsPerhaps perhaps text
    by (inl (rest, front)) other = inl (None, rest, absent text rest front)
    by (inr not_zero) (inl (behind, front)) = then behind front (find_text behind)
    by (inr not_zero) (inr not_one) = inr (neither text not_zero not_one)

find_files : Finds AreFiles files
find_files = find_list (both_spelling block block block_spelling block_spelling) (find_both block_spelling find_inside find_block)

find_pairs : Finds ArePairs (listed (both block block))
find_pairs = narrow ArePairs pairs_spelling (λ pairs are. are.0) (λ pairs are. two (inl are) (is_true (are_sorted pairs)))
    (find_list (both_spelling block block block_spelling block_spelling) (find_both block_spelling find_text find_text))

find_input : Finds IsInput input_bytes
find_input text = by (find_front (line (codes "f")) text) (find_front (line (codes "t")) text) (find_front (line (codes "v")) text)
  where
    file : (behind : List ℕ) → Found (AreBoth IsUtf8Path IsAny) (both block block) behind → Found IsInput input_bytes (line (codes "f") ++ behind)
    file behind (inl (p, rest, there)) = inl (_, rest, file_stands there)
    file behind (inr none) = inr (no_file none)

    tree : (behind : List ℕ) → Found (AreBoth IsUtf8Path AreFiles) (both block files) behind → Found IsInput input_bytes (line (codes "t") ++ behind)
    tree behind (inl (p, rest, there)) = inl (_, rest, tree_stands there)
    tree behind (inr none) = inr (no_tree none)

    value : (behind : List ℕ) → Found (AreBoth IsUtf8 IsPerhaps) (both block perhaps) behind → Found IsInput input_bytes (line (codes "v") ++ behind)
    value behind (inl (p, rest, there)) = inl (_, rest, value_stands there)
    value behind (inr none) = inr (no_value none)

    by : Fronted (line (codes "f")) text → Fronted (line (codes "t")) text → Fronted (line (codes "v")) text → Found IsInput input_bytes text
    by (inl (behind, front)) two' three = subst (Found IsInput input_bytes) (sym front) (file behind (find_both block_spelling find_path find_block behind))
    by (inr f) (inl (behind, front)) three = subst (Found IsInput input_bytes) (sym front) (tree behind (find_both block_spelling find_path find_files behind))
    by (inr f) (inr t) (inl (behind, front)) = subst (Found IsInput input_bytes) (sym front) (value behind (find_both block_spelling find_text find_perhaps behind))
    by (inr f) (inr t) (inr v) = inr (no_letter text f t v)

-- what was asked

find_texts : Finds (AllByRecursion IsUtf8) (listed block)
find_texts = find_list block_spelling find_text

find_paths : Finds (AllByRecursion IsUtf8Path) (listed block)
find_paths = find_list block_spelling find_path

find_asked_parts : Finds AreAsked asked_spelled
find_asked_parts =
    find_both block_spelling find_text (find_both (list_spelling block block_spelling) find_texts (find_both block_spelling find_path (find_both pairs_spelling find_pairs
    (find_both block_spelling find_path (find_both block_spelling find_path (find_both block_spelling find_block find_paths))))))

find_asked : Finds IsAsked asked_bytes
find_asked text = by (find_asked_parts text)
  where
    by : Found AreAsked asked_spelled text → Found IsAsked asked_bytes text
    by (inl (p, rest, there)) = inl (asked_of p, rest, asked_stands p there)
    by (inr none) = inr (not_asked none)

-- records

find_numbered : Finds AreNumbered numbered_spelled
find_numbered =
    find_both number_spelling find_small (find_both block_spelling find_text (find_both asked_spelling find_asked (find_both (list_spelling _ input_spelling) (find_list input_spelling find_input)
    (find_both (list_spelling _ (both_spelling _ _ block_spelling number_spelling)) (find_list (both_spelling _ _ block_spelling number_spelling) (find_both block_spelling find_text find_small))
    (find_both block_spelling find_block find_block)))))

find_copied : Finds AreCopied copied_spelled
find_copied =
    find_both block_spelling find_text (find_both asked_spelling find_asked (find_both (list_spelling _ input_spelling) (find_list input_spelling find_input)
    (find_both (list_spelling _ (both_spelling _ _ block_spelling files_spelling)) (find_list (both_spelling _ _ block_spelling files_spelling) (find_both block_spelling find_text find_files))
    (find_both block_spelling find_block find_block))))

-- a part that is the whole text before its end
abbrev Whole : {A : Type 0} (Is : A → Type 0) (spelled : A → List ℕ) (end text : List ℕ) → Type 0
Whole {A = A} Is spelled end text = ((x : A) × (Is x × (text ≡ spelled x ++ end))) ⊎ ((x : A) → Is x → text ≡ spelled x ++ end → ⊥)

find_whole : {A : Type 0} {P : A → Type 0} {f : A → List ℕ} → IsSpelling f → Finds P f → (end text : List ℕ) → Whole P f end text
find_whole {A = A} {P = P} {f = f} spelling find end text = by (find text)
  where
    then : (x : A) (rest : List ℕ) → BeginsWith P f text x rest → (rest ≡ end) ⊎ (rest ≡ end → ⊥) → Whole P f end text
    then x rest there (inl e) = inl (x, is_whole end rest there e)
    then x rest there (inr other) = inr (not_whole end rest spelling there other)

    by : Found P f text → Whole P f end text
    by (inl (x, rest, there)) = then x rest there (same_texts rest end)
    by (inr none) = inr (none_whole end none)

abbrev Said : List ℕ → Type 0
Said text = ((r : Record) × Says text r) ⊎ ((r : Record) → Says text r → ⊥)

said_numbered : (behind : List ℕ) → Said (line (codes "record 2") ++ behind)
said_numbered behind = by (find_whole numbered_spelling find_numbered (line (codes "end")) behind)
  where
    by : Whole AreNumbered numbered_spelled (line (codes "end")) behind → Said (line (codes "record 2") ++ behind)
    by (inl (p, are)) = inl (numbered_of p, says_numbered p are)
    by (inr none) = inr (not_numbered none)

said_copied : (behind : List ℕ) → Said (line (codes "record 1") ++ behind)
said_copied behind = by (find_whole copied_spelling find_copied (line (codes "end")) behind)
  where
    by : Whole AreCopied copied_spelled (line (codes "end")) behind → Said (line (codes "record 1") ++ behind)
    by (inl (p, are)) = inl (copied_of p, says_copied p are)
    by (inr none) = inr (not_copied none)

said : (text : List ℕ) → Said text
said text = by (find_front (line (codes "record 2")) text) (find_front (line (codes "record 1")) text)
  where
    by : Fronted (line (codes "record 2")) text → Fronted (line (codes "record 1")) text → Said text
    by (inl (behind, front)) other = subst Said (sym front) (said_numbered behind)
    by (inr not_two) (inl (behind, front)) = subst Said (sym front) (said_copied behind)
    by (inr not_two) (inr not_one) = inr (no_format text not_two not_one)

record_in : {text : List ℕ} → Said text → Option Record
record_in (inl (r, says)) = Some r
record_in (inr none) = None

is_reading : (text : List ℕ) (told : Said text) → ReadsAs text (record_in told)
unfolding record_in
is_reading text (inl (r, says)) = reads text (Some r) says
is_reading text (inr none) = reads text None none

-- the record that a text is, and none where it is that of no record
pub reading : List ℕ → Option Record
reading text = record_in (said text)

pub reading_reads : FindsAsReading reading
unfolding reading
reading_reads text = is_reading text (said text)
