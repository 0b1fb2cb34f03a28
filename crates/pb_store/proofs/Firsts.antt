-- Lemmas on what differs.
use Rattle.std.proofs.Common.{◌≡◌, ◌∙◌, ◌++◌, ◌&&◌, ℕ, zero, suc, Bool, true, false, List, [], ◌∷◌, take, drop, Contains, Option, Some, None, refl, sym, ap, subst, arith, ◌+◌, ◌<◌, length, get_or}
use Rattle.std.proofs.Math.Seq.{take-suc}
use Rattle.std.proofs.lemmas.List.{take-append-drop, drop_more, get_or_default}
use Rattle.std.specs.Prelude.{Decides}
use Rattle.std.specs.List.{AllByRecursion}
use Rattle.std.specs.Str.{bytes_eq}
use Rattle.std.proofs.lemmas.Bool.{and_parts, and_from}
use Rattle.std.proofs.lemmas.Slice.Eq.{bytes_eq-Decides}
use Rattle.pb_place_types.specs.World.{World}
use Rattle.pb_record.proofs.ReadingLemmas.{reading}
use Rattle.pb_place_types.specs.declared.command.Command.{Command}
use Rattle.pb_record.specs.declared.record.Needed.{Needed}
use Rattle.pb_record.specs.declared.record.Needed.TheVariants.{Copies, Numbers}
use Rattle.pb_record.specs.declared.record.Record.{Record}
use Rattle.pb_store_soundness.specs.Grounded.{RecordMap}
use Rattle.pb_store_soundness.specs.Records.{record_at, records}
use Rattle.pb_store_soundness.specs.Reuse.{IsSame, NeededNow}
use Rattle.pb_store.specs.Differences.{IsFirst, AreNeeded, HasFiles, HasNumber, FirstFrom, FirstOf, same_files}
use Rattle.pb_store.specs.declared.difference.Difference.{Difference}
use Rattle.pb_store.specs.declared.difference.Difference.TheVariants.{NoRecord}

-- two lists of files

pairs_same : (x y : List ℕ × List ℕ) → x.0 ≡ y.0 → x.1 ≡ y.1 → x ≡ y
pairs_same (a, b) (c, d) e f = cc (e, f)

files_alike : (xs ys : List (List ℕ × List ℕ)) → same_files xs ys ≡ true → xs ≡ ys
files_alike [] [] e = refl
files_alike [] (y ∷ ys) e = cc
files_alike (x ∷ xs) [] e = cc
files_alike (x ∷ xs) (y ∷ ys) e =
    let parts = and_parts (bytes_eq x.0 y.0 && bytes_eq x.1 y.1) (same_files xs ys) e in
    let heads = and_parts (bytes_eq x.0 y.0) (bytes_eq x.1 y.1) parts.0 in
    cc (pairs_same x y ((bytes_eq-Decides x.0 y.0).0 heads.0) ((bytes_eq-Decides x.1 y.1).0 heads.1), files_alike xs ys parts.1)

files_themselves : (xs : List (List ℕ × List ℕ)) → same_files xs xs ≡ true
files_themselves [] = refl
files_themselves (x ∷ xs) = and_from _ _ (and_from _ _ ((bytes_eq-Decides x.0 x.0).1 refl) ((bytes_eq-Decides x.1 x.1).1 refl)) (files_themselves xs)

pub files_same : (b : Bool) (xs ys : List (List ℕ × List ℕ)) → b ≡ same_files xs ys → Decides b (xs ≡ ys)
files_same b xs ys is = ((λ e. files_alike xs ys (sym is ∙ e)), (λ same. is ∙ ap (same_files xs) (sym same) ∙ files_themselves xs))

-- nothing differs, in the words of reuse

all_contained : {A : Type 0} (P : A → Type 0) (xs : List A) → AllByRecursion P xs → (x : A) → Contains xs x → P x
all_contained P [] all x (k, within, at) = absurd (omega (arith, within))
all_contained P (y ∷ xs) (here, all) x (zero, within, at) = subst P at here
all_contained P (y ∷ xs) (here, all) x (suc k, within, at) = all_contained P xs all x (k, omega (arith, within), at)

needed_now : (folder : List ℕ) (at : RecordMap) (w : World) (needed : Needed) → AreNeeded folder at w.files needed → NeededNow folder at w.files needed
needed_now folder at w (Copies copies) all = λ need files there. (all_contained (HasFiles folder w.files) copies all (need, files) there).1
needed_now folder at w (Numbers number needs) all = λ need n there. all_contained (HasNumber at) needs all (need, n) there

pub none_is_same : (folder key : List ℕ) (c : Command) (w : World) (o : Option Record) → records folder w key ≡ o → FirstOf folder (records folder w) c w o None → (r : Record) × IsSame reading folder key c w r
none_is_same folder key c w None is told = cc
none_is_same folder key c w (Some r) is told = (r, record { stands = is; asked = told.asked; inputs = told.inputs; needed = needed_now folder (records folder w) w r.needed told.needed })

-- what is told of the record there, by the records of needed units
module _ (folder key : List ℕ) (at : RecordMap) (c : Command) (w : World) (found : Option Record) (is : found ≡ record_at reading folder w.files key) where
  pub none_there : found ≡ None → FirstOf folder at c w (record_at reading folder w.files key) (Some NoRecord)
  none_there none = subst (λ o. FirstOf folder at c w o (Some NoRecord)) (sym none ∙ is) refl

  pub some_there : (mid : World) (kept : Record) (d : Option Difference) → found ≡ Some kept → mid ≡ w → FirstFrom folder at c mid kept d → FirstOf folder at c w (record_at reading folder w.files key) d
  some_there mid kept d some same told = subst (λ o. FirstOf folder at c w o d) (sym some ∙ is) (subst (λ x. FirstFrom folder at c x kept d) same told)

-- the first of a row, one by one

module _ {V A B : Type 0} (Holds : V → A → Type 0) (told : A → B) (old mid : V) (row : List A) (i : ℕ) (here : A) (within : i < length row) (is : here ≡ get_or row i here) (same : mid ≡ old) where
  all_push : (xs : List A) → AllByRecursion (Holds old) xs → Holds old here → AllByRecursion (Holds old) (xs ++ here ∷ [])
  all_push [] all holds = (holds, tt)
  all_push (x ∷ xs) (first, all) holds = (first, all_push xs all holds)

  suc_is : (k : ℕ) → k + 1 ≡ suc k
  suc_is k = omega arith

  pub one_holds : (b : Bool) → AllByRecursion (Holds old) (take i row) → Decides b (Holds mid here) → b ≡ true → AllByRecursion (Holds old) (take (i + 1) row)
  one_holds b all test passes =
      subst (AllByRecursion (Holds old)) (sym (ap (λ k. take k row) (suc_is i) ∙ take-suc row i here within ∙ ap (λ x. take i row ++ x ∷ []) (sym is)))
      (all_push (take i row) all (subst (λ w. Holds w here) same (test.0 passes)))

  pub one_fails : (b : Bool) (said : B) → AllByRecursion (Holds old) (take i row) → Decides b (Holds mid here) → b ≡ false → said ≡ told here → IsFirst (Holds old) told row said
  one_fails b said all test wrong tells = record {
    before = take i row;
    here = here;
    after = drop (i + 1) row;
    split = sym (take-append-drop i row) ∙ ap (λ rest. take i row ++ rest) (drop_more row i here within ∙ ap (λ x. x ∷ drop (i + 1) row) (sym is));
    hold = all;
    fails = λ holds. let passes = test.1 (subst (λ w. Holds w here) (sym same) holds) in cc;
    tells = tells;
  }

-- the first of a row whose items are copied out

module _ {A : Type 0} (Holds : A → Type 0) (row : List A) (i : ℕ) (first : A) (within : i < length row) where
  pub row_fails : (b : Bool) → AllByRecursion Holds (take i row) → Decides b (Holds (get_or row i first)) → b ≡ false → IsFirst Holds (λ x. x) row (get_or row i first)
  row_fails b all test wrong = record {
    before = take i row;
    here = get_or row i first;
    after = drop (i + 1) row;
    split = sym (take-append-drop i row) ∙ ap (λ rest. take i row ++ rest) (drop_more row i (get_or row i first) within ∙ ap (λ x. x ∷ drop (i + 1) row) (get_or_default row i (get_or row i first) first within));
    hold = all;
    fails = λ holds. let passes = test.1 holds in cc;
    tells = refl;
  }
