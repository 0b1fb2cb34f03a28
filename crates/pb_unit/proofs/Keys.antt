-- Keys: each is the name of a folder, and two units have two.
use Rattle.std.proofs.Common.{◌≡◌, ◌≢◌, ◌==◌, ◌&&◌, ◌||◌, ℕ, zero, suc, ◌<◌, Bool, true, false, not, cond, List, [], ◌∷◌, ◌++◌, length, codes, get_or, drop, map, refl, sym, ap, subst, ◌∙◌, arith, Some, slice_get}
use Rattle.std.specs.Prelude.{⊤}
use Rattle.std.proofs.lemmas.Bool.{false≢true}
use Rattle.std.proofs.lemmas.Slice.Eq.{bytes_eq-Decides}
use Rattle.std.specs.List.{list_any, list_all, onto_first, IsDistinct, AllByRecursion}
use Rattle.std.specs.Str.{bytes_eq}
use Rattle.pb_manifest_types.specs.Letters as letters
use Rattle.pb_place_types.specs.Paths.{parts_of, stays, leads_up, is_name, is_relative}
use Rattle.pb_place_types.proofs.PathLemmas.{and_left, and_right}
use Rattle.pb_workspace_types.specs.declared.package.Side.{Side}
use Rattle.pb_workspace_types.specs.declared.package.Side.TheVariants.{Target, Host}
use Rattle.pb_workspace_types.specs.declared.package.Package.{Package}
use Rattle.pb_workspace_types.specs.declared.workspace.Workspace.{Workspace}
use Rattle.pb_workspace_types.specs.Settled.{IsSettled, IsPackage}
use Rattle.pb_workspace_types.proofs.NamesInPaths.{either, leads_on, no_dot, no_slash, no_zero, unlike, without}
use Rattle.pb_graph.proofs.Elements.{all_at}
use Rattle.pb_unit.specs.declared.unit.Unit.{Unit}
use Rattle.pb_unit.specs.declared.unit.What.{What}
use Rattle.pb_unit.specs.declared.unit.What.TheVariants.{Lib, Bin, Script, Run}
use Rattle.pb_unit.specs.Units.{unit, name_of, name_at, side_name, what_name, key_of}

first_of : (a b : Bool) → a || b ≡ false → a ≡ false
first_of true b h = absurd (false≢true (sym h))
first_of false b h = refl

second_of : (a b : Bool) → a || b ≡ false → b ≡ false
second_of true b h = absurd (false≢true (sym h))
second_of false b h = h

clean : (n : ℕ) → letters.is_name_byte n ≡ false → (name : List ℕ) → list_all letters.is_name_byte name ≡ true → list_any (λ b. b == n) name ≡ false
clean n none [] all = refl
clean n none (b ∷ name) all = either _ _ (unlike n b none (and_left _ _ all)) (clean n none name (and_right _ _ all))

-- a text without slashes is its one part
one_part : (text : List ℕ) → list_any (λ b. b == 47) text ≡ false → parts_of text ≡ text ∷ []
one_part [] none = refl
one_part (b ∷ text) none = ap (λ t. cond t ([] ∷ parts_of text) (onto_first b (parts_of text))) (first_of _ _ none) ∙ ap (onto_first b) (one_part text (second_of _ _ none))

-- a name, a point and more, without a slash and byte 0, is the name of a folder
key_is_name : (name rest : List ℕ) → letters.is_name name ≡ true → bytes_eq rest [] ≡ false → list_any (λ b. b == 47) rest ≡ false → list_any (λ b. b == 0) rest ≡ false
    → (is_relative (name ++ 46 ∷ rest) ≡ true) × (list_any (λ b. b == 47) (name ++ 46 ∷ rest) ≡ false) × (is_name (name ++ 46 ∷ rest) ≡ true)
unfolding letters.is_name
key_is_name [] rest is more slash nul = absurd (false≢true is)
key_is_name (b ∷ name) rest is more slash nul =
    let all = and_right _ _ is in
    let flat : list_any (λ c. c == 47) (b ∷ name ++ 46 ∷ rest) ≡ false = without 47 no_slash (b ∷ name) (46 ∷ rest) all slash in
    let no_nul : list_any (λ c. c == 0) (b ∷ name ++ 46 ∷ rest) ≡ false = without 0 no_zero (b ∷ name) (46 ∷ rest) all nul in
    let named : (stays (b ∷ name ++ 46 ∷ rest) || leads_up (b ∷ name ++ 46 ∷ rest)) || list_any (λ c. c == 0) (b ∷ name ++ 46 ∷ rest) ≡ false =
    either (stays (b ∷ name ++ 46 ∷ rest) || leads_up (b ∷ name ++ 46 ∷ rest)) _ (leads_on b name rest more) no_nul in
    (ap (list_all is_name) (one_part (b ∷ name ++ 46 ∷ rest) flat) ∙ ap (λ t. not t && true) named, flat, ap not named)

-- what stands behind the package's name
abbrev rest_of : Side → What → List ℕ
rest_of s w = side_name s ++ 46 ∷ what_name w

-- a binary's name has the letters of names
abbrev pub IsNamedWell : What → Type 0
IsNamedWell (Bin name) = letters.is_name name ≡ true
IsNamedWell _ = ⊤

letters_of : (name : List ℕ) → letters.is_name name ≡ true → list_all letters.is_name_byte name ≡ true
unfolding letters.is_name
letters_of name is = and_right _ _ is

pub what_clean : (n : ℕ) (w : What) → letters.is_name_byte n ≡ false → IsNamedWell w → list_any (λ b. b == n) (what_name Lib) ≡ false → list_any (λ b. b == n) (codes "bin-") ≡ false → list_any (λ b. b == n) (what_name Script) ≡ false → list_any (λ b. b == n) (what_name Run) ≡ false → list_any (λ b. b == n) (what_name w) ≡ false
what_clean n Lib none well lib bin script run = lib
what_clean n (Bin name) none well lib bin script run = appended (codes "bin-") bin
  where
    appended : (xs : List ℕ) → list_any (λ b. b == n) xs ≡ false → list_any (λ b. b == n) (xs ++ name) ≡ false
    appended [] h = clean n none name (letters_of name well)
    appended (x ∷ xs) h = either _ _ (first_of _ _ h) (appended xs (second_of _ _ h))
what_clean n Script none well lib bin script run = script
what_clean n Run none well lib bin script run = run

rest_clean : (n : ℕ) (s : Side) (w : What) → list_any (λ b. b == n) (codes "target.") ≡ false → list_any (λ b. b == n) (codes "host.") ≡ false → list_any (λ b. b == n) (what_name w) ≡ false → list_any (λ b. b == n) (rest_of s w) ≡ false
rest_clean n Target w target host what = target_clean (codes "target.") target
  where
    target_clean : (xs : List ℕ) → list_any (λ b. b == n) xs ≡ false → list_any (λ b. b == n) (xs ++ what_name w) ≡ false
    target_clean [] h = what
    target_clean (x ∷ xs) h = either _ _ (first_of _ _ h) (target_clean xs (second_of _ _ h))
rest_clean n Host w target host what = host_clean (codes "host.") host
  where
    host_clean : (xs : List ℕ) → list_any (λ b. b == n) xs ≡ false → list_any (λ b. b == n) (xs ++ what_name w) ≡ false
    host_clean [] h = what
    host_clean (x ∷ xs) h = either _ _ (first_of _ _ h) (host_clean xs (second_of _ _ h))

rest_more : (s : Side) (w : What) → bytes_eq (rest_of s w) [] ≡ false
rest_more Target w = refl
rest_more Host w = refl

-- the key of a unit whose package has a name
pub key_named : (ws : Workspace) (u : Unit) → letters.is_name (name_at ws u.package) ≡ true → IsNamedWell u.what
    → (is_relative (key_of ws u) ≡ true) × (list_any (λ b. b == 47) (key_of ws u) ≡ false) × (is_name (key_of ws u) ≡ true)
key_named ws u is well =
    key_is_name (name_at ws u.package) (rest_of u.side u.what) is (rest_more u.side u.what)
    (rest_clean 47 u.side u.what refl refl (what_clean 47 u.what no_slash well refl refl refl refl))
    (rest_clean 0 u.side u.what refl refl (what_clean 0 u.what no_zero well refl refl refl refl))

-- Two keys.

-- two texts up to the first point
split_at : (x y r q : List ℕ) → list_any (λ b. b == 46) x ≡ false → list_any (λ b. b == 46) y ≡ false → x ++ 46 ∷ r ≡ y ++ 46 ∷ q → (x ≡ y) × (r ≡ q)
split_at [] [] r q a b e = (refl, ap (drop 1) e)
split_at [] (c ∷ y) r q a b e =
    let same : 46 ≡ c = ap (λ l. get_or l 0 0) e in
    absurd (false≢true (sym (first_of _ _ b) ∙ ap (λ z. z == 46) (sym same)))
split_at (c ∷ x) [] r q a b e =
    let same : c ≡ 46 = ap (λ l. get_or l 0 0) e in
    absurd (false≢true (sym (first_of _ _ a) ∙ ap (λ z. z == 46) same))
split_at (c ∷ x) (d ∷ y) r q a b e =
    let same : c ≡ d = ap (λ l. get_or l 0 0) e in
    let (xs, rs) = split_at x y r q (second_of _ _ a) (second_of _ _ b) (ap (drop 1) e) in
    (ap (λ z. z ∷ x) same ∙ ap (λ l. d ∷ l) xs, rs)

head_apart : (a b : ℕ) (xs ys : List ℕ) → a ≢ b → a ∷ xs ≡ b ∷ ys → ⊥
head_apart a b xs ys ne e = ne (ap (λ l. get_or l 0 0) e)

sides_apart : (s t : Side) → side_name s ≡ side_name t → s ≡ t
sides_apart Target Target e = refl
sides_apart Target Host e = absurd (head_apart 116 104 _ _ (omega arith) e)
sides_apart Host Target e = absurd (head_apart 104 116 _ _ (omega arith) e)
sides_apart Host Host e = refl

whats_apart : (w v : What) → what_name w ≡ what_name v → w ≡ v
whats_apart Lib Lib e = refl
whats_apart Lib (Bin n) e = absurd (head_apart 108 98 _ _ (omega arith) e)
whats_apart Lib Script e = absurd (head_apart 108 115 _ _ (omega arith) e)
whats_apart Lib Run e = absurd (head_apart 108 114 _ _ (omega arith) e)
whats_apart (Bin n) Lib e = absurd (head_apart 98 108 _ _ (omega arith) e)
whats_apart (Bin n) (Bin m) e = ap Bin (ap (drop 4) e)
whats_apart (Bin n) Script e = absurd (head_apart 98 115 _ _ (omega arith) e)
whats_apart (Bin n) Run e = absurd (head_apart 98 114 _ _ (omega arith) e)
whats_apart Script Lib e = absurd (head_apart 115 108 _ _ (omega arith) e)
whats_apart Script (Bin n) e = absurd (head_apart 115 98 _ _ (omega arith) e)
whats_apart Script Script e = refl
whats_apart Script Run e = absurd (head_apart 115 114 _ _ (omega arith) e)
whats_apart Run Lib e = absurd (head_apart 114 108 _ _ (omega arith) e)
whats_apart Run (Bin n) e = absurd (head_apart 114 98 _ _ (omega arith) e)
whats_apart Run Script e = absurd (head_apart 114 115 _ _ (omega arith) e)
whats_apart Run Run e = refl

side_clean : (s : Side) → list_any (λ b. b == 46) (side_name s) ≡ false
side_clean Target = refl
side_clean Host = refl

-- two units with one key: one name, one side, one thing made
pub key_parts : (ws : Workspace) (u v : Unit) → letters.is_name (name_at ws u.package) ≡ true → letters.is_name (name_at ws v.package) ≡ true → key_of ws u ≡ key_of ws v → (name_at ws u.package ≡ name_at ws v.package) × (u.side ≡ v.side) × (u.what ≡ v.what)
key_parts ws u v nu nv e =
    let (names, rests) = split_at (name_at ws u.package) (name_at ws v.package) (rest_of u.side u.what) (rest_of v.side v.what) (clean 46 no_dot _ (letters_of _ nu)) (clean 46 no_dot _ (letters_of _ nv)) e in
    let (sides, whats) = split_at (side_name u.side) (side_name v.side) (what_name u.what) (what_name v.what) (side_clean u.side) (side_clean v.side) rests in
    (names, sides_apart u.side v.side sides, whats_apart u.what v.what whats)

-- Names of packages.

package_there : (ps : List Package) (p : ℕ) → p < length ps → (owner : Package) × (slice_get ps p ≡ Some owner)
package_there [] p lt = absurd (omega arith)
package_there (x ∷ ps) zero lt = (x, refl)
package_there (x ∷ ps) (suc p) lt = package_there ps p (omega arith)

pub there : (ws : Workspace) (p : ℕ) → p < length ws.packages → (owner : Package) × (slice_get ws.packages p ≡ Some owner)
there ws p lt = package_there ws.packages p lt

pub name_is : (ws : Workspace) (p : ℕ) → IsSettled ws → p < length ws.packages → letters.is_name (name_at ws p) ≡ true
name_is ws p settled lt =
    let (owner, at) = there ws p lt in
    subst (λ o. letters.is_name (name_of o) ≡ true) (sym at) (all_at (IsPackage (length ws.packages)) ws.packages settled.packages p owner at).name

-- a name is not that of a later package
not_later : (x : List ℕ) (ps : List Package) (q : ℕ) → AllByRecursion (λ y. bytes_eq x y ≡ false) (map (λ (p : Package). p.name) ps) → q < length ps → x ≡ name_of (slice_get ps q) → ⊥
not_later x [] q all lt e = omega (arith, lt)
not_later x (p ∷ ps) zero all lt e = false≢true (sym all.0 ∙ (bytes_eq-Decides x p.name).1 e)
not_later x (p ∷ ps) (suc q) all lt e = not_later x ps q all.1 (omega arith) e

one_index : (ps : List Package) (p q : ℕ) → IsDistinct bytes_eq (map (λ (o : Package). o.name) ps) → p < length ps → q < length ps → name_of (slice_get ps p) ≡ name_of (slice_get ps q) → p ≡ q
unfolding IsDistinct
one_index [] p q d lp lq e = absurd (omega arith)
one_index (x ∷ ps) zero zero d lp lq e = refl
one_index (x ∷ ps) zero (suc q) d lp lq e = absurd (not_later x.name ps q d.0 (omega arith) e)
one_index (x ∷ ps) (suc p) zero d lp lq e = absurd (not_later x.name ps p d.0 (omega arith) (sym e))
one_index (x ∷ ps) (suc p) (suc q) d lp lq e = ap suc (one_index ps p q d.1 (omega arith) (omega arith) e)

pub one_owner : (ws : Workspace) (p q : ℕ) → IsSettled ws → p < length ws.packages → q < length ws.packages → name_at ws p ≡ name_at ws q → p ≡ q
one_owner ws p q settled lp lq e = one_index ws.packages p q settled.names lp lq e

unit_same : (u v : Unit) → u.package ≡ v.package → u.side ≡ v.side → u.what ≡ v.what → u ≡ v
unit_same u v o s w = ap (λ p. unit p u.side u.what) o ∙ ap (λ t. unit v.package t u.what) s ∙ ap (λ x. unit v.package v.side x) w

-- two units with one key are one
pub one_unit : (ws : Workspace) (u v : Unit) → IsSettled ws → u.package < length ws.packages → v.package < length ws.packages → key_of ws u ≡ key_of ws v → u ≡ v
one_unit ws u v settled lu lv e =
    let (names, sides, whats) = key_parts ws u v (name_is ws u.package settled lu) (name_is ws v.package settled lv) e in
    unit_same u v (one_owner ws u.package v.package settled lu lv names) sides whats
