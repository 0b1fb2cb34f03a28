-- The files with a fixed place: their names, the one of a turn, and those that are kept.
use Rattle.std.proofs.Common.{◌≡◌, ◌&&◌, ◌||◌, ◌<◌, ◌∙◌, ℕ, Bool, true, false, List, [], ◌∷◌, cond, get_or, refl, sym, ap}
use Rattle.std.proofs.lemmas.List.{get_or_default}
use Rattle.std.specs.List.{filter, list_any}
use denote.Enum.Bare.{same_true, sameb}
use Rattle.pb_place_types.specs.Paths.{is_relative}
use Rattle.pb_workspace_package.specs.contracts.own_file.OwnFile.{the_type}
use Rattle.pb_workspace_package.specs.declared.own_file.OwnFile.{OwnFile}
use Rattle.pb_workspace_package.specs.declared.own_file.OwnFile.TheVariants as own
use Rattle.pb_workspace_package.specs.OwnFile.{name_of, own_files}

pub own_name : (file : OwnFile) → is_relative (name_of file) ≡ true
own_name own.ReadmeMd = refl
own_name own.ReadmeTxt = refl
own_name own.Readme = refl
own_name own.BuildScript = refl
own_name own.Library = refl
own_name own.Main = refl

pub ruleset own_name_laws = (own_name)

-- as a loop over them reads it
abbrev pub file_at : ℕ → OwnFile
file_at i = get_or own_files i own.ReadmeMd

pub file_in_turn : (i : ℕ) → i < 6 → file_at i ≡ get_or own_files i (file_at i)
file_in_turn i lt = get_or_default own_files i own.ReadmeMd (file_at i) lt

-- one is among those that are kept if it is among all of them and passes the test
and_false : (b : Bool) → false ≡ (b && false)
and_false true = refl
and_false false = refl

among : {A : Type 0} (same p : A → Bool) (x : A) → ((y : A) → same y ≡ true → y ≡ x) → (ys : List A) → list_any same (filter p ys) ≡ (p x && list_any same ys)
among same p x exact [] = and_false (p x)
among {A} same p x exact (y ∷ ys) = by (same y) (p y) refl refl (among same p x exact ys)
  where
    by : (s k : Bool) → same y ≡ s → p y ≡ k → list_any same (filter p ys) ≡ (p x && list_any same ys) → list_any same (cond k (y ∷ filter p ys) (filter p ys)) ≡ (p x && (s || list_any same ys))
    by true true at passes rest = ap (λ b. b || list_any same (filter p ys)) at ∙ ap (λ b. b && true) (sym passes ∙ ap p (exact y at))
    by true false at passes rest =
        let fails : p x ≡ false = sym (ap p (exact y at)) ∙ passes in
        rest ∙ ap (λ b. b && list_any same ys) fails ∙ sym (ap (λ b. b && true) fails)
    by false true at passes rest = ap (λ b. b || list_any same (filter p ys)) at ∙ rest
    by false false at passes rest = rest

asked : (file : OwnFile) → list_any (λ other. sameb the_type other file) own_files ≡ true
asked own.ReadmeMd = refl
asked own.ReadmeTxt = refl
asked own.Readme = refl
asked own.BuildScript = refl
asked own.Library = refl
asked own.Main = refl

and_true : (b : Bool) → (b && true) ≡ b
and_true true = refl
and_true false = refl

pub own_kept : (p : OwnFile → Bool) (file : OwnFile) → list_any (λ other. sameb the_type other file) (filter p own_files) ≡ p file
own_kept p file = among (λ other. sameb the_type other file) p file (λ other at. same_true the_type tt other file at) own_files ∙ ap (λ b. p file && b) (asked file) ∙ and_true (p file)
