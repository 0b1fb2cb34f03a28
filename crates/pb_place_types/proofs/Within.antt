-- What lies at or below a folder.
use Rattle.std.proofs.Common.{◌≡◌, ◌≢◌, ◌⊎◌, ◌==◌, ◌&&◌, ◌||◌, ◌∙◌, ◌+◌, ◌<◌, ◌≤◌, ℕ, Bool, true, false, cond, List, [], ◌∷◌, ◌++◌, codes, length, refl, sym, ap, subst, arith, inl, inr, length-append}
use Rattle.std.proofs.lemmas.Bool.{cases_Bool, false≢true}
use Rattle.std.proofs.lemmas.Bool.Decides.{nat_tests}
use Rattle.std.specs.List.{list_any, list_all}
use Rattle.std.specs.Str.{bytes_eq}
use Rattle.std.proofs.lemmas.Slice.Eq.{bytes_eq-Decides}
use Rattle.pb_place_types.specs.Paths.{stem, below, is_name, is_relative, is_path, parts_of, leads_below, is_below, is_at_or_below}
use Rattle.pb_place_types.specs.Within.{BelowGoesOn, AtOrBelow, AtOrBelowGoesOn, BelowThenAt, AtThenBelow, OneFolder, NotBelowItself, ShareNoPath, RootIsAbove, NamesLieApart}
use Rattle.pb_place_types.proofs.PathLemmas.{and_left, and_right, parts_joined}

both : (a b : Bool) → a ≡ true → b ≡ true → a && b ≡ true
both a b p q = ap (λ x. x && b) p ∙ q

same_byte : (a b c : ℕ) → a == b ≡ true → b == c ≡ true → a == c ≡ true
same_byte a b c p q = grind (arith, nat_tests)

pub one_byte : (a b : ℕ) → a == b ≡ true → a ≡ b
one_byte a b p = grind (arith, nat_tests)

itself : (a : ℕ) → a == a ≡ true
itself a = grind (arith, nat_tests)

-- what is below something below a stem is below that stem
leads_on : (s t q : List ℕ) → leads_below s t ≡ true → leads_below t q ≡ true → leads_below s q ≡ true
unfolding leads_below
leads_on [] [] q h k = absurd (false≢true h)
leads_on [] (b ∷ []) q h k = absurd (false≢true h)
leads_on [] (b ∷ c ∷ t) [] h k = absurd (false≢true k)
leads_on [] (b ∷ c ∷ t) (d ∷ []) h k = absurd (false≢true (and_right _ _ k))
leads_on [] (b ∷ c ∷ t) (d ∷ e ∷ q) h k = flipped b d (and_left _ _ k) h
  where
    flipped : (b d : ℕ) → b == d ≡ true → b == 47 ≡ true → d == 47 ≡ true
    flipped b d p q = grind (arith, nat_tests)
leads_on (a ∷ s) [] q h k = absurd (false≢true h)
leads_on (a ∷ s) (b ∷ t) [] h k = absurd (false≢true k)
leads_on (a ∷ s) (b ∷ t) (d ∷ q) h k = both _ _ (same_byte a b d (and_left _ _ h) (and_left _ _ k)) (leads_on s t q (and_right _ _ h) (and_right _ _ k))

neither : (a b : Bool) → b ≡ false → a && b ≡ false
neither true b h = h
neither false b h = refl

-- the root is below nothing
no_root : (s : List ℕ) → leads_below s (codes "/") ≡ false
unfolding leads_below
no_root [] = refl
no_root (a ∷ []) = neither (a == 47) false refl
no_root (a ∷ b ∷ s) = neither (a == 47) false refl

-- strictly below goes on and on
pub below_on : (above folder path : List ℕ) → is_below above folder ≡ true → is_below folder path ≡ true → is_below above path ≡ true
unfolding is_below
below_on above folder path inside further = elim (cases_Bool (bytes_eq folder (codes "/"))) [
  | inl root ↦ absurd (false≢true (sym (no_root (stem above)) ∙ sym (ap (leads_below (stem above)) ((bytes_eq-Decides folder (codes "/")).0 root)) ∙ inside))
  | inr deep ↦ leads_on (stem above) folder path inside (sym (ap (λ t. leads_below (cond t [] folder) path) deep) ∙ further)
]

or_first : (a b : Bool) → a ≡ true → a || b ≡ true
or_first a b h = ap (λ x. x || b) h

pub or_second : (a b : Bool) → b ≡ true → a || b ≡ true
or_second true b h = refl
or_second false b h = h

one_of : (a b : Bool) → a || b ≡ true → (a ≡ true) ⊎ (b ≡ true)
one_of true b h = inl refl
one_of false b h = inr h

-- the folder itself, and what is below it
pub at_itself : (folder path : List ℕ) → folder ≡ path → is_at_or_below folder path ≡ true
unfolding is_at_or_below
at_itself folder path same = or_first _ _ ((bytes_eq-Decides folder path).1 same)

pub at_below : (folder path : List ℕ) → is_below folder path ≡ true → is_at_or_below folder path ≡ true
unfolding is_at_or_below
at_below folder path inside = or_second (bytes_eq folder path) _ inside

pub at_cases : (folder path : List ℕ) → is_at_or_below folder path ≡ true → (folder ≡ path) ⊎ (is_below folder path ≡ true)
unfolding is_at_or_below
at_cases folder path at = elim (one_of _ _ at) [
  | inl same ↦ inl ((bytes_eq-Decides folder path).0 same)
  | inr inside ↦ inr inside
]

pub at_or_below : AtOrBelow
at_or_below folder path = (at_cases folder path, elim [ inl same ↦ at_itself folder path same | inr inside ↦ at_below folder path inside ])

pub below_then_at : BelowThenAt
below_then_at above folder path inside at = elim (at_cases folder path at) [
  | inl same ↦ subst (λ p. is_below above p ≡ true) same inside
  | inr further ↦ below_on above folder path inside further
]

pub at_then_below : AtThenBelow
at_then_below above folder path at inside = elim (at_cases above folder at) [
  | inl same ↦ subst (λ f. is_below f path ≡ true) (sym same) inside
  | inr further ↦ below_on above folder path further inside
]

pub at_or_below_on : AtOrBelowGoesOn
at_or_below_on above folder path at further = elim (at_cases above folder at) [
  | inl same ↦ subst (λ f. is_at_or_below f path ≡ true) (sym same) further
  | inr inside ↦ at_below above path (below_then_at above folder path inside further)
]

-- the other way round: what is outside a folder is outside each folder in it
pub outside_within : (above folder path : List ℕ) → is_at_or_below above folder ≡ true → is_at_or_below above path ≡ false → is_at_or_below folder path ≡ false
outside_within above folder path inside outside = elim (cases_Bool (is_at_or_below folder path)) [
  | inl at ↦ absurd (false≢true (sym outside ∙ at_or_below_on above folder path inside at))
  | inr apart ↦ apart
]

-- a stem, a slash and something more
pub leads_to : (s rest : List ℕ) (c : ℕ) → leads_below s (s ++ 47 ∷ c ∷ rest) ≡ true
unfolding leads_below
leads_to [] rest c = refl
leads_to (a ∷ s) rest c = both _ _ (itself a) (leads_to s rest c)

pub leads_rest : (s path : List ℕ) → leads_below s path ≡ true → (c : ℕ) × (rest : List ℕ) × (path ≡ s ++ 47 ∷ c ∷ rest)
unfolding leads_below
leads_rest [] [] h = absurd (false≢true h)
leads_rest [] (b ∷ []) h = absurd (false≢true h)
leads_rest [] (b ∷ c ∷ rest) h = (c, rest, ap (λ n. n ∷ c ∷ rest) (one_byte b 47 h))
leads_rest (a ∷ s) [] h = absurd (false≢true h)
leads_rest (a ∷ s) (b ∷ path) h =
    let (c, rest, is) = leads_rest s path (and_right _ _ h) in
    (c, rest, ap (λ n. n ∷ path) (sym (one_byte a b (and_left _ _ h))) ∙ ap (λ p. a ∷ p) is)

pub below_goes_on : BelowGoesOn
unfolding is_below
below_goes_on folder path = (leads_rest (stem folder) path, λ (c, rest, is). subst (λ p. leads_below (stem folder) p ≡ true) (sym is) (leads_to (stem folder) rest c))

pub goes_below : (folder rest : List ℕ) → rest ≢ [] → is_below folder (below folder rest) ≡ true
unfolding is_below
goes_below folder [] some = absurd (some refl)
goes_below folder (c ∷ rest) some = leads_to (stem folder) rest c

-- what is below is longer
stem_short : (folder : List ℕ) → length folder ≤ length (stem folder) + 1
stem_short folder = elim (cases_Bool (bytes_eq folder (codes "/"))) [
  | inl root ↦
      let same : folder ≡ codes "/" = (bytes_eq-Decides folder (codes "/")).0 root in
      let short : length folder ≡ 1 = ap length same in
      omega (arith, short)
  | inr deep ↦
      let same : stem folder ≡ folder = ap (λ b. cond b [] folder) deep in
      let long : length (stem folder) ≡ length folder = ap length same in
      omega (arith, long)
]

pub leads_longer : (s path : List ℕ) → leads_below s path ≡ true → length s + 1 < length path
unfolding leads_below
leads_longer [] [] h = absurd (false≢true h)
leads_longer [] (b ∷ []) h = absurd (false≢true h)
leads_longer [] (b ∷ c ∷ rest) h = omega arith
leads_longer (a ∷ s) [] h = absurd (false≢true h)
leads_longer (a ∷ s) (b ∷ path) h = let deep : length s + 1 < length path = leads_longer s path (and_right (a == b) (leads_below s path) h) in omega arith

pub below_longer : (folder path : List ℕ) → is_below folder path ≡ true → length folder < length path
unfolding is_below
below_longer folder path h =
    let deep : length (stem folder) + 1 < length path = leads_longer (stem folder) path h in
    let short : length folder ≤ length (stem folder) + 1 = stem_short folder in
    omega arith

pub not_below_itself : NotBelowItself
not_below_itself f = elim (cases_Bool (is_below f f)) [
  | inl inside ↦ let longer : length f < length f = below_longer f f inside in absurd (omega arith)
  | inr outside ↦ outside
]

pub one_folder : OneFolder
one_folder f g one other = elim (at_cases f g one) [
  | inl same ↦ same
  | inr inside ↦ elim (at_cases g f other) [
    | inl same ↦ sym same
    | inr back ↦
        let longer : length f < length g = below_longer f g inside in
        let shorter : length g < length f = below_longer g f back in
        absurd (omega arith)
  ]
]

-- the root
pub root_is_above : RootIsAbove
unfolding is_below leads_below
root_is_above [] is = absurd (false≢true is)
root_is_above (b ∷ []) is = at_itself (codes "/") (b ∷ []) (ap (λ n. n ∷ []) (sym (one_byte b 47 is)))
root_is_above (b ∷ c ∷ rest) is = at_below (codes "/") (b ∷ c ∷ rest) (and_left _ _ is)

-- no path but the root ends with a slash
empty_part : (parts : List (List ℕ)) → list_all is_name (parts ++ [] ∷ []) ≡ false
empty_part [] = refl
empty_part (part ∷ parts) = neither (is_name part) _ (empty_part parts)

ends_relative : (text : List ℕ) → is_relative (text ++ 47 ∷ []) ≡ false
ends_relative text = ap (list_all is_name) (parts_joined text []) ∙ empty_part (parts_of text)

pub no_last_slash : (path : List ℕ) → is_path path ≡ true → is_path (path ++ 47 ∷ []) ≡ false
no_last_slash [] is = absurd (false≢true is)
no_last_slash (b ∷ []) is = neither (b == 47) _ (ends_relative [])
no_last_slash (b ∷ c ∷ rest) is = neither (b == 47) _ (ends_relative (c ∷ rest))

-- how two stems of one path lie
data Lying (s t : List ℕ) : Type 0 where
  are_one : s ≡ t → Lying s t
  leads_in : leads_below s t ≡ true → Lying s t
  leads_out : leads_below t s ≡ true → Lying s t
  slashed : t ≡ s ++ 47 ∷ [] → Lying s t
  unslashed : s ≡ t ++ 47 ∷ [] → Lying s t

lying_deep : (a b : ℕ) (s t : List ℕ) → a ≡ b → Lying s t → Lying (a ∷ s) (b ∷ t)
unfolding leads_below
lying_deep a b s t is (are_one h) = are_one (ap (λ n. n ∷ s) is ∙ ap (λ x. b ∷ x) h)
lying_deep a b s t is (leads_in h) = leads_in (both _ _ (ap (λ n. n == b) is ∙ itself b) h)
lying_deep a b s t is (leads_out h) = leads_out (both _ _ (ap (λ n. b == n) is ∙ itself b) h)
lying_deep a b s t is (slashed h) = slashed (ap (λ n. n ∷ t) (sym is) ∙ ap (λ x. a ∷ x) h)
lying_deep a b s t is (unslashed h) = unslashed (ap (λ n. n ∷ s) is ∙ ap (λ x. b ∷ x) h)

lying : (s t q : List ℕ) → leads_below s q ≡ true → leads_below t q ≡ true → Lying s t
unfolding leads_below
lying [] [] q h k = are_one refl
lying [] (b ∷ []) [] h k = absurd (false≢true h)
lying [] (b ∷ []) (d ∷ []) h k = absurd (false≢true h)
lying [] (b ∷ []) (d ∷ e ∷ q) h k = slashed (ap (λ n. n ∷ []) (one_byte b d (and_left _ _ k) ∙ one_byte d 47 h))
lying [] (b ∷ c ∷ t) [] h k = absurd (false≢true h)
lying [] (b ∷ c ∷ t) (d ∷ []) h k = absurd (false≢true h)
lying [] (b ∷ c ∷ t) (d ∷ e ∷ q) h k = leads_in (same_byte b d 47 (and_left _ _ k) h)
lying (a ∷ []) [] [] h k = absurd (false≢true k)
lying (a ∷ []) [] (d ∷ []) h k = absurd (false≢true k)
lying (a ∷ []) [] (d ∷ e ∷ q) h k = unslashed (ap (λ n. n ∷ []) (one_byte a d (and_left _ _ h) ∙ one_byte d 47 k))
lying (a ∷ c ∷ s) [] [] h k = absurd (false≢true k)
lying (a ∷ c ∷ s) [] (d ∷ []) h k = absurd (false≢true k)
lying (a ∷ c ∷ s) [] (d ∷ e ∷ q) h k = leads_out (same_byte a d 47 (and_left _ _ h) k)
lying (a ∷ s) (b ∷ t) [] h k = absurd (false≢true h)
lying (a ∷ s) (b ∷ t) (d ∷ q) h k = lying_deep a b s t (one_byte a d (and_left _ _ h) ∙ sym (one_byte b d (and_left _ _ k))) (lying s t q (and_right _ _ h) (and_right _ _ k))

-- and two folders of one path: one is at or below the other
comparable : (f g q : List ℕ) → is_path f ≡ true → is_path g ≡ true → is_below f q ≡ true → is_below g q ≡ true → (is_at_or_below f g ≡ true) ⊎ (is_at_or_below g f ≡ true)
unfolding is_below
comparable f g q is_f is_g h k = elim (cases_Bool (bytes_eq f (codes "/"))) [
  | inl root_f ↦ inl (subst (λ x. is_at_or_below x g ≡ true) (sym ((bytes_eq-Decides f (codes "/")).0 root_f)) (root_is_above g is_g))
  | inr deep_f ↦ elim (cases_Bool (bytes_eq g (codes "/"))) [
    | inl root_g ↦ inr (subst (λ x. is_at_or_below x f ≡ true) (sym ((bytes_eq-Decides g (codes "/")).0 root_g)) (root_is_above f is_f))
    | inr deep_g ↦
        let stem_f : stem f ≡ f = ap (λ b. cond b [] f) deep_f in
        let stem_g : stem g ≡ g = ap (λ b. cond b [] g) deep_g in
        lies stem_f stem_g (lying f g q (subst (λ s. leads_below s q ≡ true) stem_f h) (subst (λ s. leads_below s q ≡ true) stem_g k))
  ]
]
  where
    lies : stem f ≡ f → stem g ≡ g → Lying f g → (is_at_or_below f g ≡ true) ⊎ (is_at_or_below g f ≡ true)
    lies stem_f stem_g (are_one h) = inl (at_itself f g h)
    lies stem_f stem_g (leads_in h) = inl (at_below f g (subst (λ s. leads_below s g ≡ true) (sym stem_f) h))
    lies stem_f stem_g (leads_out h) = inr (at_below g f (subst (λ s. leads_below s f ≡ true) (sym stem_g) h))
    lies stem_f stem_g (slashed h) = absurd (false≢true (sym (no_last_slash f is_f) ∙ ap is_path (sym h) ∙ is_g))
    lies stem_f stem_g (unslashed h) = absurd (false≢true (sym (no_last_slash g is_g) ∙ ap is_path (sym h) ∙ is_f))

shared : (f g q : List ℕ) → is_path f ≡ true → is_path g ≡ true → is_at_or_below f q ≡ true → is_at_or_below g q ≡ true → (is_at_or_below f g ≡ true) ⊎ (is_at_or_below g f ≡ true)
shared f g q is_f is_g h k = elim (at_cases f q h) [
  | inl same_f ↦ inr (subst (λ x. is_at_or_below g x ≡ true) (sym same_f) k)
  | inr below_f ↦ elim (at_cases g q k) [
    | inl same_g ↦ inl (subst (λ x. is_at_or_below f x ≡ true) (sym same_g) h)
    | inr below_g ↦ comparable f g q is_f is_g below_f below_g
  ]
]

pub share_no_path : ShareNoPath
share_no_path f g q is_f is_g apart_f apart_g h = elim (cases_Bool (is_at_or_below g q)) [
  | inl k ↦ elim (shared f g q is_f is_g h k) [
    | inl one ↦ absurd (false≢true (sym apart_f ∙ one))
    | inr other ↦ absurd (false≢true (sym apart_g ∙ other))
  ]
  | inr outside ↦ outside
]

-- what follows the same beginning
cancel : (s x y : List ℕ) → s ++ x ≡ s ++ y → x ≡ y
cancel [] x y same = same
cancel (a ∷ s) x y same = let rest : s ++ x ≡ s ++ y = cc in cancel s x y rest

leads_cancel : (s x y : List ℕ) → leads_below (s ++ 47 ∷ x) (s ++ 47 ∷ y) ≡ true → leads_below x y ≡ true
unfolding leads_below
leads_cancel [] x y h = h
leads_cancel (a ∷ s) x y h = leads_cancel s x y (and_right _ _ h)

any_slash : (s rest : List ℕ) → list_any (λ b. b == 47) (s ++ 47 ∷ rest) ≡ true
any_slash [] rest = refl
any_slash (a ∷ s) rest = or_second (a == 47) _ (any_slash s rest)

cancel_slash : (s x y : List ℕ) → s ++ 47 ∷ x ≡ s ++ 47 ∷ y → x ≡ y
cancel_slash s x y same = let rest : 47 ∷ x ≡ 47 ∷ y = cancel s (47 ∷ x) (47 ∷ y) same in cc

-- the path of a name in a folder is no root
no_root_below : (folder rest : List ℕ) (c : ℕ) → bytes_eq (below folder (c ∷ rest)) (codes "/") ≡ false
no_root_below folder rest c = elim (cases_Bool (bytes_eq (below folder (c ∷ rest)) (codes "/"))) [
  | inl root ↦
      let same : below folder (c ∷ rest) ≡ codes "/" = (bytes_eq-Decides (below folder (c ∷ rest)) (codes "/")).0 root in
      let short : length (below folder (c ∷ rest)) ≡ 1 = ap length same in
      let long : length (stem folder ++ 47 ∷ c ∷ rest) ≡ length (stem folder) + length (47 ∷ c ∷ rest) = length-append (stem folder) (47 ∷ c ∷ rest) in
      absurd (omega arith)
  | inr deep ↦ deep
]

below_apart : (folder rest other : List ℕ) (c : ℕ) → list_any (λ b. b == 47) other ≡ false → is_below (below folder (c ∷ rest)) (below folder other) ≡ false
unfolding is_below
below_apart folder rest other c plain = elim (cases_Bool (is_below (below folder (c ∷ rest)) (below folder other))) [
  | inl inside ↦
      let deep : leads_below (below folder (c ∷ rest)) (below folder other) ≡ true = sym (ap (λ b. leads_below (cond b [] (below folder (c ∷ rest))) (below folder other)) (no_root_below folder rest c)) ∙ inside in
      let (d, more, is) = leads_rest (c ∷ rest) other (leads_cancel (stem folder) (c ∷ rest) other deep) in
      absurd (false≢true (sym plain ∙ ap (list_any (λ b. b == 47)) is ∙ any_slash (c ∷ rest) (d ∷ more)))
  | inr outside ↦ outside
]

pub names_lie_apart : NamesLieApart
names_lie_apart folder [] other some plain apart = absurd (some refl)
names_lie_apart folder (c ∷ rest) other some plain apart = elim (cases_Bool (is_at_or_below (below folder (c ∷ rest)) (below folder other))) [
  | inl at ↦ elim (at_cases (below folder (c ∷ rest)) (below folder other) at) [
    | inl same ↦ absurd (apart (cancel_slash (stem folder) (c ∷ rest) other same))
    | inr inside ↦ absurd (false≢true (sym (below_apart folder rest other c plain) ∙ inside))
  ]
  | inr outside ↦ outside
]

pub ruleset within_laws = (at_itself, at_below, goes_below, below_on, below_then_at, at_then_below, at_or_below_on, outside_within)

pub ruleset apart_laws = (share_no_path, names_lie_apart, not_below_itself, one_folder)
