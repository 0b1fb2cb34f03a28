-- What parsing makes is a path.
use Rattle.std.proofs.Common.{◌≡◌, ℕ, ◌-◌, ◌==◌, Bool, true, false, not, cond, ◌&&◌, ◌||◌, List, [], ◌∷◌, ◌++◌, length, take, refl, sym, ap, subst, codes, ◌<◌, drop, nat_eq, ◌∙◌, arith, zero, suc, inl, inr, Ok, Err, append_assoc}
use Rattle.std.proofs.lemmas.Bool.{cases_Bool, false≢true}
use Rattle.std.proofs.lemmas.Bool.Decides.{nat_tests}
use Rattle.std.specs.List.{fold, list_any, list_all, onto_first, AllByRecursion}
use Rattle.std.proofs.lemmas.List.{append-nil}
use Rattle.pb_place_types.specs.declared.path.PathFault.TheVariants.{BadByte}
use Rattle.pb_place_types.specs.Paths.{parsed, parts_of, stays, leads_up, walked, names_of, slashed, path_of, has_byte_0, is_name, is_relative, is_path, stem, below, folder_of, leads_below, is_below}
use Rattle.std.specs.Str.{bytes_eq}
use Rattle.std.specs.Cmp.Lexicographic.{pointwise}

-- no slash and no byte 0
pub record IsPlain (part : List ℕ) : Type 0 where
  pub whole : list_any (λ b. b == 47) part ≡ false
  pub clean : has_byte_0 part ≡ false

-- a part that stays in a path
pub record IsNamed (part : List ℕ) : Type 0 where
  pub whole : list_any (λ b. b == 47) part ≡ false
  pub named : is_name part ≡ true

or_left : (a b : Bool) → a || b ≡ false → a ≡ false
or_left true b h = h
or_left false b h = refl

or_right : (a b : Bool) → a || b ≡ false → b ≡ false
or_right true b h = absurd (false≢true (sym h))
or_right false b h = h

or_false : (a b : Bool) → a ≡ false → b ≡ false → a || b ≡ false
or_false a b p q = ap (λ x. x || b) p ∙ q

pub and_left : (a b : Bool) → a && b ≡ true → a ≡ true
and_left true b h = refl
and_left false b h = h

pub and_right : (a b : Bool) → a && b ≡ true → b ≡ true
and_right true b h = h
and_right false b h = absurd (false≢true h)

-- a character joined to the first of some parts
pub parts_some : (text : List ℕ) → 0 < length (parts_of text)
parts_some [] = omega arith
parts_some (x ∷ text) = some_of (x == 47) x (parts_of text) (parts_some text)
  where
    some_of : (t : Bool) (x : ℕ) (parts : List (List ℕ)) → 0 < length parts → 0 < length (cond t ([] ∷ parts) (onto_first x parts))
    some_of true x parts h = omega arith
    some_of false x [] h = omega arith
    some_of false x (part ∷ parts) h = omega arith

onto_front : (x : ℕ) (parts more : List (List ℕ)) → 0 < length parts → onto_first x (parts ++ more) ≡ onto_first x parts ++ more
onto_front x [] more h = absurd (omega arith)
onto_front x (part ∷ parts) more h = refl

with_first : (x : ℕ) (parts : List (List ℕ)) → x == 47 ≡ false → x == 0 ≡ false → AllByRecursion IsPlain parts → AllByRecursion IsPlain (onto_first x parts)
with_first x [] s z all = (record { whole = or_false _ _ s refl; clean = or_false _ _ z refl }, tt)
with_first x (part ∷ parts) s z all = (record { whole = or_false _ _ s all.0.whole; clean = or_false _ _ z all.0.clean }, all.1)

-- the parts of a text without byte 0
pub parts_plain : (text : List ℕ) → has_byte_0 text ≡ false → AllByRecursion IsPlain (parts_of text)
parts_plain [] clean = (record { whole = refl; clean = refl }, tt)
parts_plain (x ∷ xs) clean = elim (cases_Bool (x == 47)) [
  | inl slash ↦ subst (λ b. AllByRecursion IsPlain (cond b ([] ∷ parts_of xs) (onto_first x (parts_of xs)))) (sym slash) (record { whole = refl; clean = refl }, parts_plain xs (or_right _ _ clean))
  | inr other ↦ subst (λ b. AllByRecursion IsPlain (cond b ([] ∷ parts_of xs) (onto_first x (parts_of xs)))) (sym other) (with_first x (parts_of xs) other (or_left _ _ clean) (parts_plain xs (or_right _ _ clean)))
]

take_all : (n : ℕ) (names : List (List ℕ)) → AllByRecursion IsNamed names → AllByRecursion IsNamed (take n names)
take_all zero names all = tt
take_all (suc n) [] all = tt
take_all (suc n) (name ∷ names) all = (all.0, take_all n names all.1)

snoc_all : (names : List (List ℕ)) (part : List ℕ) → AllByRecursion IsNamed names → IsNamed part → AllByRecursion IsNamed (names ++ part ∷ [])
snoc_all [] part all is = (is, tt)
snoc_all (name ∷ names) part all is = (all.0, snoc_all names part all.1 is)

walked_named : (names : List (List ℕ)) (part : List ℕ) → AllByRecursion IsNamed names → IsPlain part → AllByRecursion IsNamed (walked names part)
walked_named names part all plain = elim (cases_Bool (stays part)) [
  | inl stay ↦ subst (λ b. AllByRecursion IsNamed (cond b names (cond (leads_up part) (take (length names - 1) names) (names ++ part ∷ [])))) (sym stay) all
  | inr moves ↦ subst (λ b. AllByRecursion IsNamed (cond b names (cond (leads_up part) (take (length names - 1) names) (names ++ part ∷ [])))) (sym moves)
      (elim (cases_Bool (leads_up part)) [
        | inl up ↦ subst (λ b. AllByRecursion IsNamed (cond b (take (length names - 1) names) (names ++ part ∷ []))) (sym up) (take_all _ names all)
        | inr on ↦ subst (λ b. AllByRecursion IsNamed (cond b (take (length names - 1) names) (names ++ part ∷ []))) (sym on)
            (snoc_all names part all record { whole = plain.whole; named = ap not (or_false _ _ (or_false _ _ moves on) plain.clean) })
      ])
]

all_walked : (names parts : List (List ℕ)) → AllByRecursion IsNamed names → AllByRecursion IsPlain parts → AllByRecursion IsNamed (fold walked names parts)
all_walked names [] all plain = all
all_walked names (part ∷ parts) all plain = all_walked (walked names part) parts (walked_named names part all plain.0) plain.1

-- a part before a slash
split_named : (name rest : List ℕ) → list_any (λ b. b == 47) name ≡ false → parts_of (name ++ 47 ∷ rest) ≡ name ∷ parts_of rest
split_named [] rest whole = refl
split_named (x ∷ name) rest whole =
    ap (λ b. cond b ([] ∷ parts_of (name ++ 47 ∷ rest)) (onto_first x (parts_of (name ++ 47 ∷ rest)))) (or_left _ _ whole) ∙ ap (onto_first x) (split_named name rest (or_right _ _ whole))

split_last : (name : List ℕ) → list_any (λ b. b == 47) name ≡ false → parts_of (name ++ []) ≡ name ∷ []
split_last [] whole = refl
split_last (x ∷ name) whole = ap (λ b. cond b ([] ∷ parts_of (name ++ [])) (onto_first x (parts_of (name ++ [])))) (or_left _ _ whole) ∙ ap (onto_first x) (split_last name (or_right _ _ whole))

pub parts-slashed : (name : List ℕ) (names : List (List ℕ)) → AllByRecursion IsNamed (name ∷ names) → parts_of (name ++ slashed names) ≡ name ∷ names
parts-slashed name [] all = split_last name all.0.whole
parts-slashed name (next ∷ names) all = split_named name (next ++ slashed names) all.0.whole ∙ ap (λ parts. name ∷ parts) (parts-slashed next names all.1)

all_named : (names : List (List ℕ)) → AllByRecursion IsNamed names → list_all is_name names ≡ true
all_named [] all = refl
all_named (name ∷ names) all = ap (λ b. b && list_all is_name names) all.0.named ∙ all_named names all.1

relative_slashed : (name : List ℕ) (names : List (List ℕ)) → AllByRecursion IsNamed (name ∷ names) → is_relative (name ++ slashed names) ≡ true
relative_slashed name names all = ap (list_all is_name) (parts-slashed name names all) ∙ all_named (name ∷ names) all

-- the path of names is one
pub path_of_named : (names : List (List ℕ)) → AllByRecursion IsNamed names → is_path (path_of names) ≡ true
path_of_named [] all = refl
path_of_named ([] ∷ names) all = absurd (false≢true all.0.named)
path_of_named ((c ∷ name) ∷ names) all = relative_slashed (c ∷ name) names all

-- what parsing makes
pub parsed_is_path : (text path : List ℕ) → has_byte_0 text ≡ false → path ≡ path_of (names_of text) → is_path path ≡ true
parsed_is_path text path clean is = ap is_path is ∙ path_of_named (names_of text) (all_walked [] (parts_of text) tt (parts_plain text clean))

-- one more character before two rows of parts
longer : (slash : Bool) (x : ℕ) (whole front more : List (List ℕ)) → 0 < length front → whole ≡ front ++ more
    → cond slash ([] ∷ whole) (onto_first x whole) ≡ cond slash ([] ∷ front) (onto_first x front) ++ more
longer true x whole front more some is = ap (λ ps. [] ∷ ps) is
longer false x whole front more some is = ap (onto_first x) is ∙ onto_front x front more some

-- the parts of two texts with a slash between them
pub parts_joined : (a b : List ℕ) → parts_of (a ++ 47 ∷ b) ≡ parts_of a ++ parts_of b
parts_joined [] b = refl
parts_joined (x ∷ a) b = longer (x == 47) x (parts_of (a ++ 47 ∷ b)) (parts_of a) (parts_of b) (parts_some a) (parts_joined a b)

all_append : (xs ys : List (List ℕ)) → list_all is_name xs ≡ true → list_all is_name ys ≡ true → list_all is_name (xs ++ ys) ≡ true
all_append [] ys p q = q
all_append (x ∷ xs) ys p q = ap (λ b. b && list_all is_name (xs ++ ys)) (and_left _ _ p) ∙ all_append xs ys (and_right _ _ p) q

both_relative : (a b : List ℕ) → is_relative a ≡ true → is_relative b ≡ true → is_relative (a ++ 47 ∷ b) ≡ true
both_relative a b p q = ap (list_all is_name) (parts_joined a b) ∙ all_append (parts_of a) (parts_of b) p q

relative_path : (relative : List ℕ) → is_relative relative ≡ true → is_path (47 ∷ relative) ≡ true
relative_path [] is = absurd (false≢true is)
relative_path (c ∷ rest) is = is

longer_path : (folder relative : List ℕ) → is_path folder ≡ true → bytes_eq folder (codes "/") ≡ false → is_relative relative ≡ true → is_path (folder ++ 47 ∷ relative) ≡ true
longer_path [] relative is deep named = absurd (false≢true is)
longer_path (b ∷ []) relative is deep named = absurd (false≢true (sym deep ∙ ap (λ t. t && true) is))
longer_path (b ∷ c ∷ rest) relative is deep named =
    ap (λ t. t && is_relative ((c ∷ rest) ++ 47 ∷ relative)) (and_left _ _ is) ∙ both_relative (c ∷ rest) relative (and_right _ _ is) named

-- a relative path in a folder
pub below_is_path : (folder relative path : List ℕ) → is_path folder ≡ true → is_relative relative ≡ true → path ≡ below folder relative → is_path path ≡ true
below_is_path folder relative path is named same = ap is_path same ∙ (elim (cases_Bool (bytes_eq folder (codes "/"))) [
  | inl root ↦ ap (λ t. is_path (cond t [] folder ++ 47 ∷ relative)) root ∙ relative_path relative named
  | inr deep ↦ ap (λ t. is_path (cond t [] folder ++ 47 ∷ relative)) deep ∙ longer_path folder relative is deep named
])

equal_byte : (a : ℕ) → a == a ≡ true
equal_byte a = grind (arith, nat_tests)

leads_to_rest : (stem rest : List ℕ) (c : ℕ) → leads_below stem (stem ++ 47 ∷ c ∷ rest) ≡ true
unfolding leads_below
leads_to_rest [] rest c = refl
leads_to_rest (a ∷ stem) rest c = ap (λ t. t && leads_below stem (stem ++ 47 ∷ c ∷ rest)) (equal_byte a) ∙ leads_to_rest stem rest c

leads_to_relative : (stem relative : List ℕ) → is_relative relative ≡ true → leads_below stem (stem ++ 47 ∷ relative) ≡ true
leads_to_relative stem [] named = absurd (false≢true named)
leads_to_relative stem (c ∷ rest) named = leads_to_rest stem rest c

-- and it lies below that folder
pub below_is_below : (folder relative path : List ℕ) → is_relative relative ≡ true → path ≡ below folder relative → is_below folder path ≡ true
unfolding is_below
below_is_below folder relative path named same = ap (leads_below (stem folder)) same ∙ leads_to_relative (stem folder) relative named

pub ruleset path_laws = (parsed_is_path, below_is_path, below_is_below)

-- a slash, and something more
abbrev pub begins_with_slash : List ℕ → Bool
begins_with_slash [] = false
begins_with_slash (b ∷ []) = false
begins_with_slash (b ∷ c ∷ rest) = b == 47

flip : (a b : ℕ) → b == a ≡ true → a == b ≡ true
flip a b h = grind (arith, nat_tests)

-- what follows the stem says whether the path leads below
pub leads_below-rest : (stem path : List ℕ) → pointwise nat_eq (take (length stem) path) stem ≡ true → leads_below stem path ≡ begins_with_slash (drop (length stem) path)
unfolding leads_below
leads_below-rest [] [] same = refl
leads_below-rest [] (b ∷ []) same = refl
leads_below-rest [] (b ∷ c ∷ rest) same = refl
leads_below-rest (a ∷ stem) [] same = absurd (false≢true same)
leads_below-rest (a ∷ stem) (b ∷ path) same = ap (λ t. t && leads_below stem path) (flip a b (and_left _ _ same)) ∙ leads_below-rest stem path (and_right _ _ same)

pub leads_below-apart : (stem path : List ℕ) → pointwise nat_eq (take (length stem) path) stem ≡ false → leads_below stem path ≡ false
unfolding leads_below
leads_below-apart [] path apart = absurd (false≢true (sym apart))
leads_below-apart (a ∷ stem) [] apart = refl
leads_below-apart (a ∷ stem) (b ∷ path) apart = elim (cases_Bool (a == b)) [
  | inl same ↦ ap (λ t. t && leads_below stem path) same ∙ leads_below-apart stem path (sym (ap (λ t. t && pointwise nat_eq (take (length stem) path) stem) (flip b a same)) ∙ apart)
  | inr other ↦ ap (λ t. t && leads_below stem path) other
]

pub ruleset leads_laws = (leads_below-rest, leads_below-apart)

not_true : (b : Bool) → not b ≡ true → b ≡ false
not_true true h = absurd (false≢true h)
not_true false h = refl

clean_first : (x : ℕ) (parts : List (List ℕ)) → list_all (λ p. not (has_byte_0 p)) (onto_first x parts) ≡ true → (x == 0 ≡ false) × (list_all (λ p. not (has_byte_0 p)) parts ≡ true)
clean_first x [] all = (or_left _ _ (not_true _ (and_left _ _ all)), refl)
clean_first x (part ∷ parts) all =
    (or_left _ _ (not_true _ (and_left _ _ all)), ap (λ b. not b && list_all (λ p. not (has_byte_0 p)) parts) (or_right (x == 0) _ (not_true _ (and_left _ _ all))) ∙ and_right _ _ all)

-- a text whose parts have no byte 0 has none
clean_parts : (text : List ℕ) → list_all (λ p. not (has_byte_0 p)) (parts_of text) ≡ true → has_byte_0 text ≡ false
clean_parts [] all = refl
clean_parts (x ∷ text) all = elim (cases_Bool (x == 47)) [
  | inl slash ↦
      let is : x ≡ 47 = grind (arith, nat_tests) in
      or_false _ _ (ap (λ n. n == 0) is) (clean_parts text (ap (list_all (λ p. not (has_byte_0 p))) (sym (ap (λ b. cond b ([] ∷ parts_of text) (onto_first x (parts_of text))) slash)) ∙ all))
  | inr other ↦
      let here = clean_first x (parts_of text) (ap (list_all (λ p. not (has_byte_0 p))) (sym (ap (λ b. cond b ([] ∷ parts_of text) (onto_first x (parts_of text))) other)) ∙ all) in
      or_false _ _ here.0 (clean_parts text here.1)
]

names_clean : (parts : List (List ℕ)) → list_all is_name parts ≡ true → list_all (λ p. not (has_byte_0 p)) parts ≡ true
names_clean [] all = refl
names_clean (p ∷ parts) all = ap (λ b. not b && list_all (λ q. not (has_byte_0 q)) parts) (or_right _ _ (not_true _ (and_left _ _ all))) ∙ names_clean parts (and_right _ _ all)

slash_of : (b : ℕ) → b == 47 ≡ true → b ≡ 47
slash_of b h = grind (arith, nat_tests)

-- a path has no byte 0
pub path_clean : (path : List ℕ) → is_path path ≡ true → has_byte_0 path ≡ false
path_clean [] is = absurd (false≢true is)
path_clean (b ∷ []) is = let slash : b ≡ 47 = slash_of b is in ap (λ n. (n == 0) || false) slash
path_clean (b ∷ c ∷ rest) is =
    let slash : b ≡ 47 = slash_of b (and_left _ _ is) in
    or_false _ _ (ap (λ n. n == 0) slash) (clean_parts (c ∷ rest) (names_clean (parts_of (c ∷ rest)) (and_right _ _ is)))

-- the folder of a path is one
pub folder_is_path : (path folder : List ℕ) → is_path path ≡ true → folder ≡ folder_of path → is_path folder ≡ true
folder_is_path path folder is same = ap is_path same ∙ path_of_named (take (length (names_of path) - 1) (names_of path)) (take_all (length (names_of path) - 1) (names_of path) (all_walked [] (parts_of path) tt (parts_plain path (path_clean path is))))

pub ruleset folder_laws = (folder_is_path)

-- a name is one name more
walked_name : (names : List (List ℕ)) (part : List ℕ) → is_name part ≡ true → walked names part ≡ names ++ part ∷ []
walked_name names part named =
    let free : (stays part || leads_up part) || has_byte_0 part ≡ false = not_true _ named in
    ap (λ b. cond b names (cond (leads_up part) (take (length names - 1) names) (names ++ part ∷ []))) (or_left _ _ (or_left _ _ free))
    ∙ ap (λ b. cond b (take (length names - 1) names) (names ++ part ∷ [])) (or_right _ _ (or_left _ _ free))

pub walk_names : (names parts : List (List ℕ)) → list_all is_name parts ≡ true → fold walked names parts ≡ names ++ parts
walk_names names [] all = sym (append-nil names)
walk_names names (part ∷ parts) all = ap (λ n. fold walked n parts) (walked_name names part (and_left _ _ all)) ∙ walk_names (names ++ part ∷ []) parts (and_right _ _ all) ∙ simp append_assoc

slashed_longer : (x : ℕ) (parts : List (List ℕ)) (text : List ℕ) → 0 < length parts → slashed parts ≡ 47 ∷ text → slashed (onto_first x parts) ≡ 47 ∷ x ∷ text
slashed_longer x [] text some is = absurd (omega arith)
slashed_longer x (part ∷ parts) text some is = let rest : part ++ slashed parts ≡ text = cc in ap (λ t. 47 ∷ x ∷ t) rest

-- the parts of a text, each after a slash, are a slash and the text
pub slashed_parts : (text : List ℕ) → slashed (parts_of text) ≡ 47 ∷ text
slashed_parts [] = refl
slashed_parts (x ∷ text) = elim (cases_Bool (x == 47)) [
  | inl slash ↦
      ap (λ b. slashed (cond b ([] ∷ parts_of text) (onto_first x (parts_of text)))) slash ∙ ap (λ t. 47 ∷ t) (slashed_parts text) ∙ ap (λ n. 47 ∷ n ∷ text) (sym (slash_of x slash))
  | inr other ↦ ap (λ b. slashed (cond b ([] ∷ parts_of text) (onto_first x (parts_of text)))) other ∙ slashed_longer x (parts_of text) text (parts_some text) (slashed_parts text)
]

path_of_some : (parts : List (List ℕ)) → 0 < length parts → path_of parts ≡ slashed parts
path_of_some [] some = absurd (omega arith)
path_of_some (part ∷ parts) some = refl

deep_path : (c : ℕ) (rest : List ℕ) → is_relative (c ∷ rest) ≡ true → parsed (47 ∷ c ∷ rest) ≡ Ok (47 ∷ c ∷ rest)
deep_path c rest named =
    ap (λ b. cond b (Err BadByte) (Ok (path_of (names_of (47 ∷ c ∷ rest))))) (clean_parts (c ∷ rest) (names_clean (parts_of (c ∷ rest)) named))
    ∙ ap (λ names. Ok (path_of names)) (walk_names [] (parts_of (c ∷ rest)) named)
    ∙ ap (λ text. Ok text) (path_of_some (parts_of (c ∷ rest)) (parts_some (c ∷ rest)) ∙ slashed_parts (c ∷ rest))

-- a path says itself
pub parsed_path : (path : List ℕ) → is_path path ≡ true → parsed path ≡ Ok path
parsed_path [] is = absurd (false≢true is)
parsed_path (b ∷ []) is = subst (λ n. parsed (n ∷ []) ≡ Ok (n ∷ [])) (sym (slash_of b is)) refl
parsed_path (b ∷ c ∷ rest) is = subst (λ n. parsed (n ∷ c ∷ rest) ≡ Ok (n ∷ c ∷ rest)) (sym (slash_of b (and_left _ _ is))) (deep_path c rest (and_right _ _ is))
