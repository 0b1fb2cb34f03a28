-- The first difference of a unit is what the law says.
use Rattle.std.proofs.Common.{◌≡◌, ◌∙◌, ◌++◌, ◌∷◌, [], ℕ, zero, suc, List, length, Option, Some, None, drop, take, slice_get, refl, sym, ap, subst}
use Rattle.std.specs.List.{AllByRecursion}
use Rattle.pb_place_types.specs.World.{World}
use Rattle.pb_place_types.specs.declared.command.Command as commands
use Rattle.pb_record.specs.declared.record.Needed.{Needed}
use Rattle.pb_record.specs.declared.record.Needed.TheVariants.{Copies, Numbers}
use Rattle.pb_record.specs.declared.record.Record.{Record}
use Rattle.pb_store_soundness.specs.Grounded.{RecordMap}
use Rattle.pb_store_soundness.specs.Inputs.{Agrees, name_of}
use Rattle.pb_store_soundness.specs.Records.{records}
use Rattle.pb_record.specs.Commands.{command_of}
use Rattle.pb_store.specs.Asking.{SamePart, parts}
use Rattle.pb_store.specs.Differences.{FirstNeed, FirstOf, HasFiles, HasNumber, IsFirst, IsPresent}
use Rattle.pb_store.specs.declared.difference.Difference.{Difference}
use Rattle.pb_store.specs.declared.difference.Difference.TheVariants.{NoRecord, Command, Pair, Input, Dependency}
use Rattle.pb_build_laws.specs.Differing as words
use Rattle.pb_build_laws.specs.Differing.{DifferencesAreThese, Differs, IsFirstOf}

-- the first of a row

there : {A : Type 0} (before : List A) (here : A) (after : List A) → slice_get (before ++ here ∷ after) (length before) ≡ Some here
there [] here after = refl
there (x ∷ before) here after = there before here after

first_part : {A : Type 0} (before : List A) (here : A) (after : List A) → take (length before) (before ++ here ∷ after) ≡ before
first_part [] here after = refl
first_part (x ∷ before) here after = ap (λ xs. x ∷ xs) (first_part before here after)

cut : {A : Type 0} (row : List A) (n : ℕ) (here : A) → slice_get row n ≡ Some here → row ≡ take n row ++ here ∷ drop (suc n) row
cut [] n here at = absurd (cc)
cut (x ∷ row) zero here at = let same : x ≡ here = cc in ap (λ y. y ∷ row) same
cut (x ∷ row) (suc n) here at = ap (λ xs. x ∷ xs) (cut row n here at)

module _ {A B : Type 0} (Holds : A → Type 0) (told : A → B) (row : List A) (b : B) where
  to_first : IsFirst Holds told row b → IsFirstOf Holds told row b
  to_first is = (
    length is.before,
    is.here,
    ap (λ xs. slice_get xs (length is.before)) is.split ∙ there is.before is.here is.after,
    is.fails,
    subst (AllByRecursion Holds) (sym (ap (take (length is.before)) is.split ∙ first_part is.before is.here is.after)) is.hold,
    is.tells,
  )

  from_first : IsFirstOf Holds told row b → IsFirst Holds told row b
  from_first (n, here, at, fails, hold, tells) = record { before = take n row; here = here; after = drop (suc n) row; split = cut row n here at; hold = hold; fails = fails; tells = tells }

module _ (folder : List ℕ) (at : RecordMap) (c : commands.Command) (w : World) where
  need_only : (r : Record) (same : command_of r.asked ≡ c) (inputs : Agrees c.target r.inputs w) (key : List ℕ) (needed : Needed) → r.needed ≡ needed → FirstNeed folder at w.files needed key → Differs folder at c w (Some r) (Some (Dependency key))
  need_only r same inputs key (Copies copies) is first = words.copied r same inputs copies is key (to_first (HasFiles folder w.files) (λ copy. copy.0) copies key first)
  need_only r same inputs key (Numbers number needs) is first = words.need r same inputs number needs is key (to_first (HasNumber at) (λ need. need.0) needs key first)

  only : (o : Option Record) (found : Option Difference) → FirstOf folder at c w o found → Differs folder at c w o found
  only None found is = subst (Differs folder at c w None) (sym is) words.no_record
  only (Some r) None is = words.nothing r is
  only (Some r) (Some NoRecord) is = absurd is
  only (Some r) (Some (Command p)) is = words.part r p (to_first (SamePart r.asked c) (λ p. p) parts p is)
  only (Some r) (Some (Pair name)) is = words.variable r name is.0 is.1
  only (Some r) (Some (Input name)) is = words.input r name is.0 (to_first (IsPresent c.target w) name_of r.inputs name is.1)
  only (Some r) (Some (Dependency key)) is = need_only r is.0 is.1 key r.needed refl is.2

  back : (o : Option Record) (found : Option Difference) → Differs folder at c w o found → FirstOf folder at c w o found
  back _ _ words.no_record = refl
  back _ _ (words.nothing r is) = is
  back _ _ (words.part r p first) = from_first (SamePart r.asked c) (λ p. p) parts p first
  back _ _ (words.variable r name same first) = (same, first)
  back _ _ (words.input r name same first) = (same, from_first (IsPresent c.target w) name_of r.inputs name first)
  back _ _ (words.need r same inputs number needs is key first) = (same, inputs, subst (λ needed. FirstNeed folder at w.files needed key) (sym is) (from_first (HasNumber at) (λ need. need.0) needs key first))
  back _ _ (words.copied r same inputs copies is key first) = (same, inputs, subst (λ needed. FirstNeed folder at w.files needed key) (sym is) (from_first (HasFiles folder w.files) (λ copy. copy.0) copies key first))

pub differences_are_these : DifferencesAreThese
differences_are_these folder key c w found = (only folder (records folder w) c w (records folder w key) found, back folder (records folder w) c w (records folder w key) found)
