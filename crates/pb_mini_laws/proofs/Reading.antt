-- What is spelled in dep-info is read there.
use Rattle.std.proofs.Common.{◌≡◌, ℕ, ◌+◌, ◌-◌, suc, not, ◌&&◌, ◌||◌, Bool, true, false, cond, List, [], ◌∷◌, ◌++◌, length, take, slice_index, filter, Option, Some, None, Result, Ok, Err, refl, sym, ◌∙◌, ap, subst, arith, eqb, codes, append_assoc}
use Rattle.std.proofs.lemmas.List.{append-nil}
use Rattle.std.proofs.lemmas.Bool.Decides.{Decides-eqb}
use Rattle.std.proofs.lemmas.List.Folds.{list_any-append}
use Rattle.std.proofs.lemmas.Slice.Eq.{bytes_eq-Decides}
use Rattle.std.specs.List.{onto_first, before_first, position_or_len, AllByRecursion}
use Rattle.std.specs.Str.{is_utf8, bytes_eq}
use Rattle.std.specs.Str.Lines.{strip_carriage_return}
use Rattle.pb_data.specs.UnlessOom.{◌>>=◌, lifted}
use Rattle.pb_data.specs.OrderedSet.{is_mentioned, once}
use Rattle.pb_data.specs.Table.{names_of}
use Rattle.pb_data.proofs.MentionLemmas.{is_mentioned-once}
use Rattle.pb_directive.proofs.JoinLemmas.{names-followed_by}
use Rattle.pb_directive.specs.DepInfo.{nothing, joined, one_variable, ends_outputs, after_outputs, parts_of, rule_words, rule_info, variable_info, full_line, text_info, line_info, info_from, each_once, all_names_of, dep_info_of}
use Rattle.pb_directive.specs.Directives.{is_empty}
use Rattle.pb_directive.specs.Faults.{fault_at}
use Rattle.pb_directive.specs.Laws.{then_named, line_count}
use Rattle.pb_directive.specs.Lines.{lines_of, has_byte, text_of}
use Rattle.pb_directive.specs.declared.dep_info.DepInfo.{DepInfo}
use Rattle.pb_directive.specs.declared.fault.LineFault.{LineFault}
use Rattle.pb_directive.specs.declared.fault.Problem.{Problem}
use Rattle.pb_directive.specs.declared.fault.Problem.TheVariants as problem
use Rattle.pb_mini.specs.DepInfo.{spelled, paths_text, value_text, variables_text, dep_info_text}
use Rattle.pb_mini.specs.declared.dep_info.Names.{Names}
use Rattle.pb_mini_laws.specs.ReadBack.{ends_plainly, CanBeTold, CanBeAsked, AreAmong, ReadsBack}

-- ---- tests of bytes

record Neither (x y : Bool) : Type 0 where
  one : x ≡ false
  other : y ≡ false

neither : (x y : Bool) → (x || y) ≡ false → Neither x y
neither true y is = absurd (cc)
neither false y is = record { one = refl; other = is }

or_false : (x y : Bool) → x ≡ false → y ≡ false → (x || y) ≡ false
or_false x y one other = ap (λ r. r || y) one ∙ other

and_false : (x : Bool) → (x && false) ≡ false
and_false true = refl
and_false false = refl

not_true : (x : Bool) → not x ≡ true → x ≡ false
not_true true is = absurd (cc)
not_true false is = refl

-- ---- the outputs of a rule end at the colon that was written for it

outputs_at : (output rest : List ℕ) → ends_outputs rest ≡ true → after_outputs (spelled output ++ 58 ∷ rest) ≡ Some rest
outputs_at [] rest ends = ap (λ r. cond r (Some rest) (after_outputs rest)) ends
outputs_at (b ∷ output) rest ends = by (eqb b 32) refl (outputs_at output rest ends)
  where
    -- what is spelled does not begin with a space
    begins : (left : List ℕ) → ends_outputs (spelled left ++ 58 ∷ rest) ≡ false
    begins [] = refl
    begins (c ∷ left) = at (eqb c 32) refl
      where
        at : (r : Bool) → eqb c 32 ≡ r → ends_outputs (cond r (92 ∷ 32 ∷ spelled left) (c ∷ spelled left) ++ 58 ∷ rest) ≡ false
        at true is = refl
        at false is = is

    by : (r : Bool) → eqb b 32 ≡ r → after_outputs (spelled output ++ 58 ∷ rest) ≡ Some rest → after_outputs (cond r (92 ∷ 32 ∷ spelled output) (b ∷ spelled output) ++ 58 ∷ rest) ≡ Some rest
    by true is later = later
    by false is later =
        ap (λ r. cond (eqb b 58 && r) (Some (spelled output ++ 58 ∷ rest)) (after_outputs (spelled output ++ 58 ∷ rest))) (begins output)
        ∙ ap (λ r. cond r (Some (spelled output ++ 58 ∷ rest)) (after_outputs (spelled output ++ 58 ∷ rest))) (and_false (eqb b 58)) ∙ later

-- ---- the words of a rule

space_first : (rest : List ℕ) → parts_of (32 ∷ rest) ≡ [] ∷ parts_of rest
space_first [] = refl
space_first (b ∷ rest) = refl

-- a byte before one that is no space
plain_first : (b c : ℕ) (bytes : List ℕ) → eqb b 32 ≡ false → eqb c 32 ≡ false → parts_of (b ∷ c ∷ bytes) ≡ onto_first b (parts_of (c ∷ bytes))
plain_first b c bytes first second =
    ap (λ r. cond r ([] ∷ parts_of (c ∷ bytes)) (cond (eqb b 92 && eqb c 32) (onto_first 32 (parts_of bytes)) (onto_first b (parts_of (c ∷ bytes))))) first
    ∙ ap (λ r. cond r (onto_first 32 (parts_of bytes)) (onto_first b (parts_of (c ∷ bytes)))) (ap (λ r. eqb b 92 && r) second ∙ and_false (eqb b 92))

-- a byte before something spelled that is not empty
before_spelled : (b c : ℕ) (left rest : List ℕ) → eqb b 32 ≡ false → parts_of (b ∷ (spelled (c ∷ left) ++ rest)) ≡ onto_first b (parts_of (spelled (c ∷ left) ++ rest))
before_spelled b c left rest spaceless = by (eqb c 32) refl
  where
    by : (r : Bool) → eqb c 32 ≡ r → parts_of (b ∷ (cond r (92 ∷ 32 ∷ spelled left) (c ∷ spelled left) ++ rest)) ≡ onto_first b (parts_of (cond r (92 ∷ 32 ∷ spelled left) (c ∷ spelled left) ++ rest))
    by true is = plain_first b 92 (32 ∷ spelled left ++ rest) spaceless refl
    by false is = plain_first b c (spelled left ++ rest) spaceless is

-- a last byte that is no `\`, before a space
last_before : (b : ℕ) (rest : List ℕ) → eqb b 32 ≡ false → eqb b 92 ≡ false → parts_of (b ∷ 32 ∷ rest) ≡ (b ∷ []) ∷ parts_of rest
last_before b rest spaceless plain =
    ap (λ r. cond r ([] ∷ parts_of (32 ∷ rest)) (cond (eqb b 92 && true) (onto_first 32 (parts_of rest)) (onto_first b (parts_of (32 ∷ rest))))) spaceless
    ∙ ap (λ r. cond (r && true) (onto_first 32 (parts_of rest)) (onto_first b (parts_of (32 ∷ rest)))) plain
    ∙ ap (onto_first b) (space_first rest)

-- a spelled name before a space is one part
part_before : (name rest : List ℕ) → ends_plainly name ≡ true → parts_of (spelled name ++ 32 ∷ rest) ≡ name ∷ parts_of rest
part_before [] rest ends = absurd (cc)
part_before (b ∷ []) rest ends = by (eqb b 32) refl
  where
    by : (r : Bool) → eqb b 32 ≡ r → parts_of (cond r (92 ∷ 32 ∷ []) (b ∷ []) ++ 32 ∷ rest) ≡ (b ∷ []) ∷ parts_of rest
    by true is = ap (onto_first 32) (space_first rest) ∙ ap (λ c. (c ∷ []) ∷ parts_of rest) (sym ((Decides-eqb b 32).0 is))
    by false is = last_before b rest is (neither (eqb b 92) (eqb b 13) (not_true (eqb b 92 || eqb b 13) ends)).one
part_before (b ∷ c ∷ name) rest ends = by (eqb b 32) refl (part_before (c ∷ name) rest ends)
  where
    by : (r : Bool) → eqb b 32 ≡ r → parts_of (spelled (c ∷ name) ++ 32 ∷ rest) ≡ (c ∷ name) ∷ parts_of rest
        → parts_of (cond r (92 ∷ 32 ∷ spelled (c ∷ name)) (b ∷ spelled (c ∷ name)) ++ 32 ∷ rest) ≡ (b ∷ c ∷ name) ∷ parts_of rest
    by true is later = ap (onto_first 32) later ∙ ap (λ x. (x ∷ c ∷ name) ∷ parts_of rest) (sym ((Decides-eqb b 32).0 is))
    by false is later = before_spelled b c name (32 ∷ rest) is ∙ ap (onto_first b) later

-- and a spelled name at the end
part_last : (name : List ℕ) → parts_of (spelled name) ≡ name ∷ []
part_last [] = refl
part_last (b ∷ []) = by (eqb b 32) refl
  where
    by : (r : Bool) → eqb b 32 ≡ r → parts_of (cond r (92 ∷ 32 ∷ []) (b ∷ [])) ≡ (b ∷ []) ∷ []
    by true is = ap (λ c. (c ∷ []) ∷ []) (sym ((Decides-eqb b 32).0 is))
    by false is = ap (λ r. cond r ([] ∷ [] ∷ []) ((b ∷ []) ∷ [])) is
part_last (b ∷ c ∷ name) = by (eqb b 32) refl (part_last (c ∷ name))
  where
    plain : eqb b 32 ≡ false → parts_of (b ∷ spelled (c ∷ name)) ≡ onto_first b (parts_of (spelled (c ∷ name)))
    plain spaceless = at (eqb c 32) refl
      where
        at : (r : Bool) → eqb c 32 ≡ r → parts_of (b ∷ cond r (92 ∷ 32 ∷ spelled name) (c ∷ spelled name)) ≡ onto_first b (parts_of (cond r (92 ∷ 32 ∷ spelled name) (c ∷ spelled name)))
        at true is = plain_first b 92 (32 ∷ spelled name) spaceless refl
        at false is = plain_first b c (spelled name) spaceless is

    by : (r : Bool) → eqb b 32 ≡ r → parts_of (spelled (c ∷ name)) ≡ (c ∷ name) ∷ [] → parts_of (cond r (92 ∷ 32 ∷ spelled (c ∷ name)) (b ∷ spelled (c ∷ name))) ≡ (b ∷ c ∷ name) ∷ []
    by true is later = ap (onto_first 32) later ∙ ap (λ x. (x ∷ c ∷ name) ∷ []) (sym ((Decides-eqb b 32).0 is))
    by false is later = plain is ∙ ap (onto_first b) later

-- the parts of paths that are told
parts_told : (path : List ℕ) (paths : List (List ℕ)) → AllByRecursion CanBeTold (path ∷ paths) → parts_of (paths_text (path ∷ paths)) ≡ [] ∷ path ∷ paths
parts_told path [] told = space_first (spelled path ++ []) ∙ ap (λ p. [] ∷ parts_of p) (append-nil (spelled path)) ∙ ap (λ ps. [] ∷ ps) (part_last path)
parts_told path (next ∷ paths) told =
    space_first (spelled path ++ paths_text (next ∷ paths))
    ∙ ap (λ ps. [] ∷ ps) (part_before path (spelled next ++ paths_text paths) told.0.ends ∙ ap (λ ps. path ∷ ps) (tail (parts_told next paths told.1)))
  where
    tail : parts_of (32 ∷ spelled next ++ paths_text paths) ≡ [] ∷ next ∷ paths → parts_of (spelled next ++ paths_text paths) ≡ next ∷ paths
    tail whole = let both : [] ∷ parts_of (spelled next ++ paths_text paths) ≡ [] ∷ next ∷ paths = sym (space_first (spelled next ++ paths_text paths)) ∙ whole in cc

filled : (path : List ℕ) → ends_plainly path ≡ true → is_empty path ≡ false
filled [] ends = absurd (cc)
filled (b ∷ path) ends = by (is_empty (b ∷ path)) refl
  where
    by : (r : Bool) → is_empty (b ∷ path) ≡ r → is_empty (b ∷ path) ≡ false
    by true is = let none : length (b ∷ path) ≡ 0 = (Decides-eqb _ _).0 is in absurd (omega arith)
    by false is = is

kept : (paths : List (List ℕ)) → AllByRecursion CanBeTold paths → filter (λ part. not (is_empty part)) paths ≡ paths
kept [] told = refl
kept (path ∷ paths) told = (λ i. cond (not (filled path told.0.ends i)) (path ∷ kept paths told.1 i) (kept paths told.1 i))

-- the words of the rule are the paths that were told
words_told : (paths : List (List ℕ)) → AllByRecursion CanBeTold paths → rule_words (paths_text paths) ≡ paths
words_told [] told = refl
words_told (path ∷ paths) told = ap (filter (λ part. not (is_empty part))) (parts_told path paths told) ∙ kept (path ∷ paths) told

-- ---- what a result that is there was made of

record Both (first second : Result DepInfo LineFault) (info : DepInfo) : Type 0 where
  here : DepInfo
  more : DepInfo
  is_here : first ≡ Ok here
  is_more : second ≡ Ok more
  is : joined here more ≡ info

both : (lines : ℕ) (first second : Result DepInfo LineFault) (info : DepInfo) → then_named lines first second ≡ Ok info → Both first second info
both lines (Ok here) (Ok more) info is = record { here = here; more = more; is_here = refl; is_more = refl; is = cc }
both lines (Ok here) (Err e) info is = absurd (cc)
both lines (Err e) second info is = absurd (cc)

record Step (line : Result DepInfo Problem) (rest : Result DepInfo LineFault) (info : DepInfo) : Type 0 where
  here : DepInfo
  more : DepInfo
  is_here : line ≡ Ok here
  is : joined here more ≡ info

step : (wrap : Problem → LineFault) (line : Result DepInfo Problem) (rest : Result DepInfo LineFault) (info : DepInfo) → (lifted wrap line >>= (λ here. rest >>= (λ more. Ok (joined here more)))) ≡ Ok info → Step line rest info
step wrap (Ok here) (Ok more) info is = record { here = here; more = more; is_here = refl; is = cc }
step wrap (Ok here) (Err e) info is = absurd (cc)
step wrap (Err e) rest info is = absurd (cc)

record Read (bytes : List ℕ) (info : DepInfo) : Type 0 where
  all : DepInfo
  named : all_names_of bytes ≡ Ok all
  is : each_once all ≡ info

read_of : (bytes : List ℕ) (info : DepInfo) → dep_info_of bytes ≡ Ok info → Read bytes info
read_of bytes info is = by (all_names_of bytes) refl is
  where
    by : (r : Result DepInfo LineFault) → all_names_of bytes ≡ r → (r >>= (λ found. Ok (each_once found))) ≡ Ok info → Read bytes info
    by (Ok all) named made = record { all = all; named = named; is = cc }
    by (Err e) named made = absurd (cc)

-- ---- names among names

among_first : (xs ys : List (List ℕ)) → AreAmong xs (xs ++ ys)
among_first xs ys text is = list_any-append (bytes_eq text) xs ys ∙ ap (λ r. r || is_mentioned ys text) is

among_second : (xs ys zs : List (List ℕ)) → AreAmong xs zs → AreAmong xs (ys ++ zs)
among_second xs ys zs among text is = list_any-append (bytes_eq text) ys zs ∙ by (is_mentioned ys text) (among text is)
  where
    by : (r : Bool) → is_mentioned zs text ≡ true → (r || is_mentioned zs text) ≡ true
    by true there = refl
    by false there = there

among_through : (xs ys zs : List (List ℕ)) → AreAmong xs ys → AreAmong xs (ys ++ zs)
among_through xs ys zs among text is = among_first ys zs text (among text is)

among_once : (xs ys : List (List ℕ)) → AreAmong xs ys → AreAmong xs (once ys)
among_once xs ys among text is = is_mentioned-once ys text ∙ among text is

-- ---- a line that is whole

-- the bytes do not end with a carriage return
abbrev open_end : List ℕ → Bool
open_end [] = true
open_end (b ∷ []) = not (eqb b 13)
open_end (b ∷ c ∷ bytes) = open_end (c ∷ bytes)

open_append : (xs : List ℕ) (y : ℕ) (ys : List ℕ) → open_end (xs ++ y ∷ ys) ≡ open_end (y ∷ ys)
open_append [] y ys = refl
open_append (b ∷ []) y ys = refl
open_append (b ∷ c ∷ xs) y ys = open_append (c ∷ xs) y ys

strip_cons : (b c : ℕ) (bytes : List ℕ) → strip_carriage_return (b ∷ c ∷ bytes) ≡ b ∷ strip_carriage_return (c ∷ bytes)
strip_cons b c bytes = by (length (c ∷ bytes) - 1) (omega arith)
  where
    last : (n : ℕ) (r : Bool) → cond r (b ∷ take n (c ∷ bytes)) (b ∷ c ∷ bytes) ≡ b ∷ cond r (take n (c ∷ bytes)) (c ∷ bytes)
    last n true = refl
    last n false = refl

    by : (n : ℕ) → length (b ∷ c ∷ bytes) - 1 ≡ suc n → cond (eqb (slice_index (b ∷ c ∷ bytes) (length (b ∷ c ∷ bytes) - 1)) 13) (take (length (b ∷ c ∷ bytes) - 1) (b ∷ c ∷ bytes)) (b ∷ c ∷ bytes)
        ≡ b ∷ cond (eqb (slice_index (c ∷ bytes) n) 13) (take n (c ∷ bytes)) (c ∷ bytes)
    by n is = ap (λ m. cond (eqb (slice_index (b ∷ c ∷ bytes) m) 13) (take m (b ∷ c ∷ bytes)) (b ∷ c ∷ bytes)) is ∙ last n (eqb (slice_index (c ∷ bytes) n) 13)

strip_open : (bytes : List ℕ) → open_end bytes ≡ true → strip_carriage_return bytes ≡ bytes
strip_open [] ends = refl
strip_open (b ∷ []) ends = ap (λ r. cond r (take 0 (b ∷ [])) (b ∷ [])) (not_true (eqb b 13) ends)
strip_open (b ∷ c ∷ bytes) ends = strip_cons b c bytes ∙ ap (λ bs. b ∷ bs) (strip_open (c ∷ bytes) ends)

-- before a byte that stays something is taken away only behind it
record Stays (front : List ℕ) (rest : List ℕ) : Type 0 where
  left : List ℕ
  is : strip_carriage_return (front ++ 61 ∷ rest) ≡ front ++ 61 ∷ left

stays_here : (rest : List ℕ) → Stays [] rest
stays_here [] = record { left = []; is = refl }
stays_here (c ∷ rest) = record { left = strip_carriage_return (c ∷ rest); is = strip_cons 61 c rest }

stays : (front rest : List ℕ) → Stays front rest
stays [] rest = stays_here rest
stays (f ∷ []) rest = let later = stays_here rest in record { left = later.left; is = strip_cons f 61 rest ∙ ap (λ bs. f ∷ bs) later.is }
stays (f ∷ g ∷ front) rest = let later = stays (g ∷ front) rest in record { left = later.left; is = strip_cons f g (front ++ 61 ∷ rest) ∙ ap (λ bs. f ∷ bs) later.is }

-- a spelled name does not end with one
spelled_open : (f : ℕ) (name : List ℕ) → ends_plainly name ≡ true → open_end (f ∷ spelled name) ≡ true
spelled_open f [] ends = absurd (cc)
spelled_open f (b ∷ []) ends = by (eqb b 32) refl
  where
    by : (r : Bool) → eqb b 32 ≡ r → open_end (f ∷ cond r (92 ∷ 32 ∷ []) (b ∷ [])) ≡ true
    by true is = refl
    by false is = ap not (neither (eqb b 92) (eqb b 13) (not_true (eqb b 92 || eqb b 13) ends)).other
spelled_open f (b ∷ c ∷ name) ends = by (eqb b 32) (λ g. spelled_open g (c ∷ name) ends)
  where
    by : (r : Bool) → ((g : ℕ) → open_end (g ∷ spelled (c ∷ name)) ≡ true) → open_end (f ∷ cond r (92 ∷ 32 ∷ spelled (c ∷ name)) (b ∷ spelled (c ∷ name))) ≡ true
    by true later = later 32
    by false later = later b

name_open : (f : ℕ) (name : List ℕ) → ends_plainly name ≡ true → open_end (f ∷ name) ≡ true
name_open f [] ends = absurd (cc)
name_open f (b ∷ []) ends = ap not (neither (eqb b 92) (eqb b 13) (not_true (eqb b 92 || eqb b 13) ends)).other
name_open f (b ∷ c ∷ name) ends = name_open b (c ∷ name) ends

paths_open : (paths : List (List ℕ)) → AllByRecursion CanBeTold paths → open_end (58 ∷ paths_text paths) ≡ true
paths_open [] told = refl
paths_open (path ∷ []) told = ap (λ p. open_end (32 ∷ p)) (append-nil (spelled path)) ∙ spelled_open 32 path told.0.ends
paths_open (path ∷ next ∷ paths) told = open_append (32 ∷ spelled path) 32 (spelled next ++ paths_text paths) ∙ paths_open (next ∷ paths) told.1

-- ---- a line without a line feed

single : (text : List ℕ) → has_byte 10 text ≡ false → lines_of text ≡ text ∷ []
single [] none = refl
single (b ∷ text) none =
    let each = neither (eqb b 10) (has_byte 10 text) none in
    ap (λ r. cond r ([] ∷ lines_of text) (onto_first b (lines_of text))) each.one ∙ ap (onto_first b) (single text each.other)

spelled_line : (name : List ℕ) → has_byte 10 name ≡ false → has_byte 10 (spelled name) ≡ false
spelled_line [] none = refl
spelled_line (b ∷ name) none =
    let each = neither (eqb b 10) (has_byte 10 name) none in
    by (eqb b 32) each.one (spelled_line name each.other)
  where
    by : (r : Bool) → eqb b 10 ≡ false → has_byte 10 (spelled name) ≡ false → has_byte 10 (cond r (92 ∷ 32 ∷ spelled name) (b ∷ spelled name)) ≡ false
    by true here later = later
    by false here later = or_false (eqb b 10) (has_byte 10 (spelled name)) here later

lines_append : (xs ys : List ℕ) → has_byte 10 xs ≡ false → has_byte 10 ys ≡ false → has_byte 10 (xs ++ ys) ≡ false
lines_append xs ys one other = list_any-append (λ b. eqb b 10) xs ys ∙ or_false (has_byte 10 xs) (has_byte 10 ys) one other

paths_line : (paths : List (List ℕ)) → AllByRecursion CanBeTold paths → has_byte 10 (paths_text paths) ≡ false
paths_line [] told = refl
paths_line (path ∷ paths) told = lines_append (spelled path) (paths_text paths) (spelled_line path told.0.one_line) (paths_line paths told.1)

-- ---- the rule

is_read : (info : DepInfo) (text : List ℕ) (r : Bool) → text_info (cond r (Some text) None) ≡ Ok info → cond (is_empty text) (Ok nothing) (full_line text) ≡ Ok info
is_read info text true is = is
is_read info text false is = absurd (cc)

is_full : (info : DepInfo) (b : ℕ) (text : List ℕ) → cond (is_empty (b ∷ text)) (Ok nothing) (full_line (b ∷ text)) ≡ Ok info → full_line (b ∷ text) ≡ Ok info
is_full info b text is = by (is_empty (b ∷ text)) refl is
  where
    by : (r : Bool) → is_empty (b ∷ text) ≡ r → cond r (Ok nothing) (full_line (b ∷ text)) ≡ Ok info → full_line (b ∷ text) ≡ Ok info
    by true none is = let zero : length (b ∷ text) ≡ 0 = (Decides-eqb _ _).0 none in absurd (omega arith)
    by false none is = is

rule_named : (info : DepInfo) (rest : List ℕ) → rule_info (Some rest) ≡ Ok info → rule_words rest ≡ info.words
rule_named info rest = by (has_byte 0 rest)
  where
    by : (r : Bool) → cond r (Err problem.BadValue) (Ok (record { words = rule_words rest; variables = [] })) ≡ Ok info → rule_words rest ≡ info.words
    by true is = absurd (cc)
    by false is = let same : record { words = rule_words rest; variables = [] } ≡ info = cc in ap (λ (x : DepInfo). x.words) same

ends_paths : (paths : List (List ℕ)) → ends_outputs (paths_text paths) ≡ true
ends_paths [] = refl
ends_paths (path ∷ paths) = refl

rule_line : (output : List ℕ) (paths : List (List ℕ)) (info : DepInfo) → AllByRecursion CanBeTold paths → line_info (spelled (47 ∷ output) ++ 58 ∷ paths_text paths) ≡ Ok info → paths ≡ info.words
rule_line output paths info told is =
    let whole : strip_carriage_return (spelled (47 ∷ output) ++ 58 ∷ paths_text paths) ≡ spelled (47 ∷ output) ++ 58 ∷ paths_text paths =
    strip_open (spelled (47 ∷ output) ++ 58 ∷ paths_text paths) (open_append (spelled (47 ∷ output)) 58 (paths_text paths) ∙ paths_open paths told) in
    let full : full_line (spelled (47 ∷ output) ++ 58 ∷ paths_text paths) ≡ Ok info =
    is_full info 47 (spelled output ++ 58 ∷ paths_text paths) (is_read info (spelled (47 ∷ output) ++ 58 ∷ paths_text paths) (is_utf8 (spelled (47 ∷ output) ++ 58 ∷ paths_text paths)) (ap (λ t. text_info (text_of t)) (sym whole) ∙ is)) in
    sym (words_told paths told) ∙ rule_named info (paths_text paths) (ap rule_info (sym (outputs_at (47 ∷ output) (paths_text paths) (ends_paths paths))) ∙ full)

rule_read : (output : List ℕ) (paths : List (List ℕ)) (all : DepInfo) → has_byte 10 (47 ∷ output) ≡ false → AllByRecursion CanBeTold paths → all_names_of (spelled (47 ∷ output) ++ 58 ∷ paths_text paths) ≡ Ok all
    → AreAmong paths all.words
rule_read output paths all line told named =
    let one = single (spelled (47 ∷ output) ++ 58 ∷ paths_text paths) (lines_append (spelled (47 ∷ output)) (58 ∷ paths_text paths) (spelled_line (47 ∷ output) line) (paths_line paths told)) in
    let made = step (fault_at 1) (line_info (spelled (47 ∷ output) ++ 58 ∷ paths_text paths)) (Ok nothing) all (ap (info_from 1) (sym one) ∙ named) in
    subst (λ (info : DepInfo). AreAmong paths info.words) made.is
    (subst (λ words. AreAmong paths (words ++ made.more.words)) (rule_line output paths made.here told made.is_here) (among_first paths made.more.words))

-- ---- a variable

name_first : (name rest : List ℕ) → has_byte 61 name ≡ false → before_first (λ b. eqb b 61) rest ≡ [] → before_first (λ b. eqb b 61) (name ++ rest) ≡ name
name_first [] rest none stops = stops
name_first (b ∷ name) rest none stops =
    let each = neither (eqb b 61) (has_byte 61 name) none in
    let there : position_or_len (λ c. eqb c 61) (b ∷ (name ++ rest)) ≡ 1 + position_or_len (λ c. eqb c 61) (name ++ rest) = ap (λ r. cond (not r) (1 + position_or_len (λ c. eqb c 61) (name ++ rest)) 0) each.one in
    let next : position_or_len (λ c. eqb c 61) (b ∷ (name ++ rest)) ≡ suc (position_or_len (λ c. eqb c 61) (name ++ rest)) = omega arith in
    ap (λ n. take n (b ∷ (name ++ rest))) next ∙ ap (λ t. b ∷ t) (name_first name rest each.other stops)

variable_named : (info : DepInfo) (name rest : List ℕ) → has_byte 61 name ≡ false → before_first (λ b. eqb b 61) rest ≡ [] → variable_info (name ++ rest) ≡ Ok info → name ∷ [] ≡ info.variables
variable_named info name rest none stops is = by (is_empty name) (has_byte 0 name) (ap variable_of_name (sym (name_first name rest none stops)) ∙ is)
  where
    variable_of_name : List ℕ → Result DepInfo Problem
    variable_of_name n = cond (is_empty n) (Err problem.BadValue) (cond (has_byte 0 n) (Err problem.BadValue) (Ok (one_variable n)))

    by : (r s : Bool) → cond r (Err problem.BadValue) (cond s (Err problem.BadValue) (Ok (one_variable name))) ≡ Ok info → name ∷ [] ≡ info.variables
    by true s is = absurd (cc)
    by false true is = absurd (cc)
    by false false is = let same : one_variable name ≡ info = cc in ap (λ (x : DepInfo). x.variables) same

variable_line : (name rest line : List ℕ) (info : DepInfo) → has_byte 61 name ≡ false → before_first (λ b. eqb b 61) rest ≡ [] → strip_carriage_return line ≡ codes "# env-dep:" ++ (name ++ rest) → line_info line ≡ Ok info → name ∷ [] ≡ info.variables
variable_line name rest line info none stops stripped is =
    variable_named info name rest none stops
    (is_full info 35 (codes " env-dep:" ++ (name ++ rest)) (is_read info (codes "# env-dep:" ++ (name ++ rest)) (is_utf8 (codes "# env-dep:" ++ (name ++ rest))) (ap (λ t. text_info (text_of t)) (sym stripped) ∙ is)))

record FirstLine (text : List ℕ) : Type 0 where
  line : List ℕ
  rest : List (List ℕ)
  is : lines_of text ≡ line ∷ rest

first_line : (text : List ℕ) → FirstLine text
first_line [] = record { line = []; rest = []; is = refl }
first_line (b ∷ text) = by (eqb b 10) refl (first_line text)
  where
    by : (r : Bool) → eqb b 10 ≡ r → FirstLine text → FirstLine (b ∷ text)
    by true at later = record { line = []; rest = lines_of text; is = ap (λ r. cond r ([] ∷ lines_of text) (onto_first b (lines_of text))) at }
    by false at later = record { line = b ∷ later.line; rest = later.rest; is = ap (λ r. cond r ([] ∷ lines_of text) (onto_first b (lines_of text))) at ∙ ap (onto_first b) later.is }

line_after : (name text line : List ℕ) (rest : List (List ℕ)) → has_byte 10 name ≡ false → lines_of text ≡ line ∷ rest → lines_of (name ++ text) ≡ (name ++ line) ∷ rest
line_after [] text line rest none is = is
line_after (b ∷ name) text line rest none is =
    let each = neither (eqb b 10) (has_byte 10 name) none in
    ap (λ r. cond r ([] ∷ lines_of (name ++ text)) (onto_first b (lines_of (name ++ text)))) each.one ∙ ap (onto_first b) (line_after name text line rest each.other is)

-- what is read in some lines holds what is read in the first of them
variable_first : (name line : List ℕ) (rest : List (List ℕ)) (text : List ℕ) (all : DepInfo) → ((info : DepInfo) → line_info line ≡ Ok info → name ∷ [] ≡ info.variables) → lines_of text ≡ line ∷ rest → all_names_of text ≡ Ok all
    → is_mentioned all.variables name ≡ true
variable_first name line rest text all says is named =
    let made = step (fault_at 1) (line_info line) (info_from (1 + 1) rest) all (ap (info_from 1) (sym is) ∙ named) in
    subst (λ (info : DepInfo). is_mentioned info.variables name ≡ true) made.is
    (subst (λ names. is_mentioned (names ++ made.more.variables) name ≡ true) (says made.here made.is_here) (ap (λ r. r || is_mentioned made.more.variables name) ((bytes_eq-Decides name name).1 refl)))

variable_read : (variable : List ℕ × Option (List ℕ)) (all : DepInfo) → CanBeAsked variable → all_names_of (codes "# env-dep:" ++ variable.0 ++ value_text variable.1) ≡ Ok all → is_mentioned all.variables variable.0 ≡ true
variable_read variable all told named = by variable.1 named
  where
    by : (value : Option (List ℕ)) → all_names_of (codes "# env-dep:" ++ (variable.0 ++ value_text value)) ≡ Ok all → is_mentioned all.variables variable.0 ≡ true
    by None named =
        variable_first variable.0 (codes "# env-dep:" ++ (variable.0 ++ [])) [] (codes "# env-dep:" ++ (variable.0 ++ [])) all
        (λ info is. variable_line variable.0 [] (codes "# env-dep:" ++ (variable.0 ++ [])) info told.no_equals refl (strip_open (codes "# env-dep:" ++ (variable.0 ++ [])) open_line) is)
        (line_after (codes "# env-dep:") (variable.0 ++ []) (variable.0 ++ []) [] refl (line_after variable.0 [] [] [] told.told.one_line refl)) named
      where
        open_line : open_end (codes "# env-dep:" ++ (variable.0 ++ [])) ≡ true
        open_line = ap (λ n. open_end (58 ∷ n)) (append-nil variable.0) ∙ name_open 58 variable.0 told.told.ends
    by (Some value) named =
        let tail = first_line value in
        let kept = stays (codes "# env-dep:" ++ variable.0) tail.line in
        variable_first variable.0 (codes "# env-dep:" ++ (variable.0 ++ 61 ∷ tail.line)) tail.rest (codes "# env-dep:" ++ (variable.0 ++ 61 ∷ value)) all
        (λ info is. variable_line variable.0 (61 ∷ kept.left) (codes "# env-dep:" ++ (variable.0 ++ 61 ∷ tail.line)) info told.no_equals refl kept.is is)
        (line_after (codes "# env-dep:") (variable.0 ++ 61 ∷ value) (variable.0 ++ 61 ∷ tail.line) tail.rest refl (line_after variable.0 (61 ∷ value) (61 ∷ tail.line) tail.rest told.told.one_line (ap (onto_first 61) tail.is))) named

-- the first of some variables, and the others
variables_made : (variable : List ℕ × Option (List ℕ)) (variables : List (List ℕ × Option (List ℕ))) (all : DepInfo) → all_names_of (variables_text (variable ∷ variables)) ≡ Ok all
    → Both (all_names_of (codes "# env-dep:" ++ variable.0 ++ value_text variable.1)) (all_names_of (variables_text variables)) all
variables_made variable variables all named =
    both (line_count (codes "# env-dep:" ++ variable.0 ++ value_text variable.1)) (all_names_of (codes "# env-dep:" ++ variable.0 ++ value_text variable.1)) (all_names_of (variables_text variables)) all
    (sym (names-followed_by (codes "# env-dep:" ++ variable.0 ++ value_text variable.1) (variables_text variables))
    ∙ ap all_names_of (sym (append_assoc (codes "# env-dep:" ++ variable.0 ++ value_text variable.1) (10 ∷ []) (variables_text variables))) ∙ named)

variables_read : (variables : List (List ℕ × Option (List ℕ))) (all : DepInfo) → AllByRecursion CanBeAsked variables → all_names_of (variables_text variables) ≡ Ok all → AreAmong (names_of variables) all.variables
variables_read [] all told named text is = absurd (cc)
variables_read (variable ∷ variables) all told named text is =
    let made = variables_made variable variables all named in
    subst (λ (info : DepInfo). is_mentioned info.variables text ≡ true) made.is
    (by made.here made.more (bytes_eq text variable.0) refl is (variable_read variable made.here told.0 made.is_here) (λ there. variables_read variables made.more told.1 made.is_more text there))
  where
    by : (here more : DepInfo) (r : Bool) → bytes_eq text variable.0 ≡ r → (r || is_mentioned (names_of variables) text) ≡ true → is_mentioned here.variables variable.0 ≡ true
        → (is_mentioned (names_of variables) text ≡ true → is_mentioned more.variables text ≡ true) → is_mentioned (here.variables ++ more.variables) text ≡ true
    by here more true same is found later =
        let one : text ≡ variable.0 = (bytes_eq-Decides text variable.0).0 same in
        among_first here.variables more.variables text (ap (is_mentioned here.variables) one ∙ found)
    by here more false same is found later = list_any-append (bytes_eq text) here.variables more.variables ∙ or_later (is_mentioned here.variables text) (later is)
      where
        or_later : (s : Bool) → is_mentioned more.variables text ≡ true → (s || is_mentioned more.variables text) ≡ true
        or_later true there = refl
        or_later false there = there

-- ---- the whole text

slash_read : (output : List ℕ) (names : Names) (info : DepInfo) → has_byte 10 (47 ∷ output) ≡ false → AllByRecursion CanBeTold names.paths → AllByRecursion CanBeAsked names.variables → dep_info_of (dep_info_text (47 ∷ output) names) ≡ Ok info
    → AreAmong names.paths info.words × AreAmong (names_of names.variables) info.variables
slash_read output names info line paths variables is =
    let read = read_of (dep_info_text (47 ∷ output) names) info is in
    let made = both (line_count (spelled (47 ∷ output) ++ 58 ∷ paths_text names.paths)) (all_names_of (spelled (47 ∷ output) ++ 58 ∷ paths_text names.paths)) (all_names_of (variables_text names.variables)) read.all
    (sym (names-followed_by (spelled (47 ∷ output) ++ 58 ∷ paths_text names.paths) (variables_text names.variables)) ∙ read.named) in
    subst (λ (found : DepInfo). AreAmong names.paths found.words × AreAmong (names_of names.variables) found.variables) read.is
    (subst (λ (found : DepInfo). AreAmong names.paths (once found.words) × AreAmong (names_of names.variables) (once found.variables)) made.is (
      among_once names.paths (made.here.words ++ made.more.words) (among_through names.paths made.here.words made.more.words (rule_read output names.paths made.here line paths made.is_here)),
      among_once (names_of names.variables) (made.here.variables ++ made.more.variables)
          (among_second (names_of names.variables) made.here.variables made.more.variables (variables_read names.variables made.more variables made.is_more)),
    ))

pub reads_back : (output : List ℕ) (names : Names) (info : DepInfo) → ReadsBack output names info
reads_back [] names info absolute line paths variables is = absurd (cc)
reads_back (b ∷ output) names info absolute line paths variables is =
    let slash : b ≡ 47 = (Decides-eqb b 47).0 absolute in
    slash_read output names info (subst (λ c. has_byte 10 (c ∷ output) ≡ false) slash line) paths variables (subst (λ c. dep_info_of (dep_info_text (c ∷ output) names) ≡ Ok info) slash is)
