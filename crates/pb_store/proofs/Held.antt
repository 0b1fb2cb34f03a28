-- The numbers that a store holds stand for those of the records: once it is opened, and as records come and go.
use Rattle.std.proofs.Common.{◌≡◌, ◌≢◌, ◌⊎◌, ◌∙◌, ◌&&◌, ℕ, true, false, if◌then◌else◌, codes, List, [], ◌∷◌, ◌++◌, Option, Some, None, Contains, refl, sym, ap, subst, inl, inr}
use Rattle.std.proofs.lemmas.Bool.{cases_Bool, false≢true, and_from}
use Rattle.std.proofs.lemmas.List.{append_cancel_right}
use Rattle.std.proofs.lemmas.Slice.Eq.{bytes_eq-Decides}
use Rattle.std.specs.FinMap.{get}
use Rattle.std.specs.List.{AllByRecursion, fold}
use Rattle.std.specs.Option.{option_and_then}
use Rattle.std.specs.Prelude.{MatchOption}
use Rattle.std.specs.Str.{bytes_eq}
use Rattle.pb_data.specs.Table.{value_at, with_entry}
use Rattle.pb_place_types.specs.Paths.{is_at_or_below}
use Rattle.pb_place_types.specs.World.{World, Map, AgreeBut, ChangesOnly, listed_directly}
use Rattle.pb_place_types.proofs.PathLemmas.{and_left, and_right}
use Rattle.pb_record.proofs.ReadingLemmas.{reading}
use Rattle.pb_record.specs.declared.record.Needed.{Needed}
use Rattle.pb_record.specs.declared.record.Needed.TheVariants.{Numbers}
use Rattle.pb_record.specs.declared.record.Record.{Record}
use Rattle.pb_store_soundness.specs.Grounded.{RecordMap}
use Rattle.pb_store_soundness.specs.Records.{RecordParser, ends_as_record, if_of_key, is_key, number_of, record_path, read_text, record_at}
use Rattle.pb_store_soundness.specs.Reuse.{number_if}
use Rattle.pb_store_soundness.proofs.RecordPaths.{is_same, no_key, one_key, records_differ, record_same, text_at}
use Rattle.pb_store.specs.Differences.{AreNeeded, FirstNeed, FirstOrAll, HasNumber, IsFirst}
use Rattle.pb_store.specs.Folder.{HasNumbers, IsHeld, number_in, numbered, or_zero}
use Rattle.pb_store.specs.Presence.{noted, noted_at, numbered_by}
use Rattle.pb_store.proofs.Ahead.{record_ends, record_listed}
use Rattle.pb_store.proofs.Earned.{contains_cases, contains_none}

-- The numbers that are held stand for the records of needed units.
module _ (at : RecordMap) (numbers : List (List ℕ × Option ℕ)) (holds : HasNumbers at numbers) where
  has_from : (need : List ℕ × ℕ) → IsHeld numbers need → HasNumber at need
  has_from need held = sym (holds need.0) ∙ held

  all_from : (needs : List (List ℕ × ℕ)) → AllByRecursion (IsHeld numbers) needs → AllByRecursion (HasNumber at) needs
  all_from [] all = tt
  all_from (need ∷ needs) (one, more) = (has_from need one, all_from needs more)

  first_from : (needs : List (List ℕ × ℕ)) (b : List ℕ) → IsFirst (IsHeld numbers) (λ x. x.0) needs b → IsFirst (HasNumber at) (λ x. x.0) needs b
  first_from needs b first = record {
    before = first.before;
    here = first.here;
    after = first.after;
    split = first.split;
    hold = all_from first.before first.hold;
    fails = λ has. first.fails (holds first.here.0 ∙ has);
    tells = first.tells;
  }

  told_from : (needs : List (List ℕ × ℕ)) (number : ℕ) (folder : List ℕ) (files : Map) (found : Option (List ℕ)) → FirstOrAll (IsHeld numbers) needs found → MatchOption found (AreNeeded folder at files (Numbers number needs)) (FirstNeed folder at files (Numbers number needs))
  told_from needs number folder files None all = all_from needs all
  told_from needs number folder files (Some b) first = first_from needs b first

  pub first_by_number : (needed : Needed) (number : ℕ) (needs passed : List (List ℕ × ℕ)) (folder : List ℕ) (files : Map) (found : Option (List ℕ)) → needed ≡ Numbers number needs → passed ≡ needs → FirstOrAll (IsHeld numbers) passed found
      → MatchOption found (AreNeeded folder at files needed) (FirstNeed folder at files needed)
  first_by_number needed number needs passed folder files found is given told =
      subst (λ n. MatchOption found (AreNeeded folder at files n) (FirstNeed folder at files n)) (sym is) (told_from needs number folder files found (subst (λ ns. FirstOrAll (IsHeld numbers) ns found) given told))

  pub numbered_held : (needs : List (List ℕ)) → numbered_by numbers needs ≡ numbered at needs
  numbered_held [] = refl
  numbered_held (need ∷ needs) = ap (λ n. (need, or_zero n) ∷ numbered_by numbers needs) (holds need) ∙ ap (λ ns. (need, or_zero (number_if (at need))) ∷ ns) (numbered_held needs)

-- A table with one more entry.
unlike : (x y : List ℕ) → x ≢ y → bytes_eq x y ≡ false
unlike x y apart = elim (cases_Bool (bytes_eq x y)) [
  | inl same ↦ absurd (apart ((bytes_eq-Decides x y).0 same))
  | inr is ↦ is
]

alike : (x : List ℕ) → bytes_eq x x ≡ true
alike x = (bytes_eq-Decides x x).1 refl

value_there : (numbers : List (List ℕ × Option ℕ)) (key : List ℕ) (n : Option ℕ) → value_at key (with_entry numbers key n) ≡ Some n
value_there [] key n = ap (λ b. if b then Some n else None) (alike key)
value_there (e ∷ es) key n = elim (cases_Bool (bytes_eq key e.0)) [
  | inl same ↦ ap (λ b. value_at key (if b then (e.0, n) ∷ es else e ∷ with_entry es key n)) same ∙ ap (λ b. if b then Some n else value_at key es) same
  | inr apart ↦ ap (λ b. value_at key (if b then (e.0, n) ∷ es else e ∷ with_entry es key n)) apart ∙ ap (λ b. if b then Some e.1 else value_at key (with_entry es key n)) apart ∙ value_there es key n
]

value_elsewhere : (numbers : List (List ℕ × Option ℕ)) (key : List ℕ) (n : Option ℕ) (other : List ℕ) → other ≢ key → value_at other (with_entry numbers key n) ≡ value_at other numbers
value_elsewhere [] key n other apart = ap (λ b. if b then Some n else None) (unlike other key apart)
value_elsewhere (e ∷ es) key n other apart = elim (cases_Bool (bytes_eq key e.0)) [
  | inl same ↦
      let away : bytes_eq other e.0 ≡ false = unlike other e.0 (λ is. apart (is ∙ sym ((bytes_eq-Decides key e.0).0 same))) in
      ap (λ b. value_at other (if b then (e.0, n) ∷ es else e ∷ with_entry es key n)) same ∙ ap (λ b. if b then Some n else value_at other es) away ∙ sym (ap (λ b. if b then Some e.1 else value_at other es) away)
  | inr more ↦ ap (λ b. value_at other (if b then (e.0, n) ∷ es else e ∷ with_entry es key n)) more ∙ ap (λ v. if bytes_eq other e.0 then Some e.1 else v) (value_elsewhere es key n other apart)
]

pub noted_so : (numbers later : List (List ℕ × Option ℕ)) (text key : List ℕ) (n : Option ℕ) → text ≡ key → later ≡ with_entry numbers text n → later ≡ with_entry numbers key n
noted_so numbers later text key n is noted = noted ∙ ap (λ k. with_entry numbers k n) is

-- Where only the place of a record changes, and what stands there has this number.
module _ (read : RecordParser) (folder key : List ℕ) (is : is_key key ≡ true) where
  stays : (old new : Map) (l : List ℕ) → AgreeBut (is_at_or_below (record_path folder key)) old new → key ≢ l → record_at read folder new l ≡ record_at read folder old l
  stays old new l only apart = elim (cases_Bool (is_key l)) [
    | inl is_l ↦ record_same read folder old new l (only _ (records_differ folder key l is is_l apart))
    | inr wrong ↦ no_key read folder new l wrong ∙ sym (no_key read folder old l wrong)
  ]

  held_on : (old new : Map) (numbers : List (List ℕ × Option ℕ)) (n : Option ℕ) → AgreeBut (is_at_or_below (record_path folder key)) old new → number_if (record_at read folder new key) ≡ n
      → HasNumbers (record_at read folder old) numbers → HasNumbers (record_at read folder new) (with_entry numbers key n)
  held_on old new numbers n only here holds l = elim (is_same key l) [
    | inl same ↦ subst (λ k. number_in (with_entry numbers key n) k ≡ number_if (record_at read folder new k)) same (ap (option_and_then (λ (number : Option ℕ). number)) (value_there numbers key n) ∙ sym here)
    | inr apart ↦ ap (option_and_then (λ (number : Option ℕ). number)) (value_elsewhere numbers key n l (λ e. apart (sym e))) ∙ holds l ∙ ap number_if (sym (stays old new l only apart))
  ]

  pub held_dropped : (old mid new : World) (numbers later : List (List ℕ × Option ℕ)) → mid ≡ old → ChangesOnly (is_at_or_below (record_path folder key)) mid new → record_at read folder new.files key ≡ None → later ≡ with_entry numbers key None
      → HasNumbers (record_at read folder old.files) numbers → HasNumbers (record_at read folder new.files) later
  held_dropped old mid new numbers later same only gone is_later holds =
      subst (HasNumbers (record_at read folder new.files)) (sym is_later)
      (held_on mid.files new.files numbers None only.files (ap number_if gone) (subst (λ (w : World). HasNumbers (record_at read folder w.files) numbers) (sym same) holds))

  pub held_put : (old mid new : World) (numbers later : List (List ℕ × Option ℕ)) (r : Record) (number : ℕ) → mid ≡ old → ChangesOnly (is_at_or_below (record_path folder key)) mid new → record_at read folder new.files key ≡ Some r → number_of r ≡ Some number
      → later ≡ with_entry numbers key (Some number) → HasNumbers (record_at read folder old.files) numbers → HasNumbers (record_at read folder new.files) later
  held_put old mid new numbers later r number same only there has is_later holds =
      subst (HasNumbers (record_at read folder new.files)) (sym is_later)
      (held_on mid.files new.files numbers (Some number) only.files (ap number_if there ∙ has) (subst (λ (w : World). HasNumbers (record_at read folder w.files) numbers) (sym same) holds))

-- The store is opened.
record_is : (folder k l : List ℕ) → record_path folder k ≡ record_path folder l → k ≡ l
record_is folder k l same = append_cancel_right k l (codes ".record") (one_key folder (k ++ codes ".record") (l ++ codes ".record") same)

module _ (folder : List ℕ) (m : Map) where
  abbrev number_there : List ℕ → Option ℕ
  number_there key = number_if (record_at reading folder m key)

  -- a record that is read elsewhere changes nothing of a key
  noted_apart : (path key : List ℕ) (o : Option Record) (numbers : List (List ℕ × Option ℕ)) → ((k : List ℕ) → is_key k ≡ true → record_path folder k ≡ path → key ≢ k) → number_in (noted folder path o numbers) key ≡ number_in numbers key
  noted_apart path key None numbers apart = refl
  noted_apart path key (Some r) numbers apart = elim (cases_Bool (is_key r.key && bytes_eq (record_path folder r.key) path)) [
    | inl here ↦ ap (λ b. number_in (if b then with_entry numbers r.key (number_of r) else numbers) key) here
        ∙ ap (option_and_then (λ (number : Option ℕ). number)) (value_elsewhere numbers r.key (number_of r) key (apart r.key (and_left _ _ here) ((bytes_eq-Decides (record_path folder r.key) path).0 (and_right _ _ here))))
    | inr other ↦ ap (λ b. number_in (if b then with_entry numbers r.key (number_of r) else numbers) key) other
  ]

  step_apart : (path key : List ℕ) (numbers : List (List ℕ × Option ℕ)) → ((k : List ℕ) → is_key k ≡ true → record_path folder k ≡ path → key ≢ k) → number_in (noted_at folder m numbers path) key ≡ number_in numbers key
  step_apart path key numbers apart = elim (cases_Bool (ends_as_record path)) [
    | inl named ↦ ap (λ b. number_in (if b then noted folder path (read_text reading (get m path)) numbers else numbers) key) named ∙ noted_apart path key (read_text reading (get m path)) numbers apart
    | inr other ↦ ap (λ b. number_in (if b then noted folder path (read_text reading (get m path)) numbers else numbers) key) other
  ]

  -- the one that is read in its place gives the number of the record that counts there
  noted_here : (key : List ℕ) (o : Option Record) (numbers : List (List ℕ × Option ℕ)) → is_key key ≡ true → (number_in numbers key ≡ None) ⊎ (number_in numbers key ≡ number_if (if_of_key key o))
      → number_in (noted folder (record_path folder key) o numbers) key ≡ number_if (if_of_key key o)
  noted_here key None numbers is (inl none) = none
  noted_here key None numbers is (inr same) = same
  noted_here key (Some r) numbers is before = elim (cases_Bool (is_key r.key && bytes_eq (record_path folder r.key) (record_path folder key))) [
    | inl here ↦
        let own : r.key ≡ key = record_is folder r.key key ((bytes_eq-Decides (record_path folder r.key) (record_path folder key)).0 (and_right _ _ here)) in
        ap (λ b. number_in (if b then with_entry numbers r.key (number_of r) else numbers) key) here
        ∙ subst (λ k. number_in (with_entry numbers r.key (number_of r)) k ≡ number_of r) own (ap (option_and_then (λ (number : Option ℕ). number)) (value_there numbers r.key (number_of r)))
        ∙ sym (ap (λ b. number_if (if b then Some r else None)) ((bytes_eq-Decides r.key key).1 own))
    | inr other ↦
        let apart : bytes_eq r.key key ≡ false = unlike r.key key (λ own. false≢true (sym other ∙ and_from _ _ (ap is_key own ∙ is) ((bytes_eq-Decides (record_path folder r.key) (record_path folder key)).1 (ap (record_path folder) own)))) in
        let none : number_if (if_of_key key (Some r)) ≡ None = ap (λ b. number_if (if b then Some r else None)) apart in
        ap (λ b. number_in (if b then with_entry numbers r.key (number_of r) else numbers) key) other
        ∙ elim before [
          | inl unheld ↦ unheld ∙ sym none
          | inr same ↦ same
        ]
  ]

  module _ (key : List ℕ) (is : is_key key ≡ true) where
    there_is : number_there key ≡ number_if (if_of_key key (read_text reading (get m (record_path folder key))))
    there_is = ap number_if (text_at reading folder m key (get m (record_path folder key)) is refl)

    step_here : (numbers : List (List ℕ × Option ℕ)) → (number_in numbers key ≡ None) ⊎ (number_in numbers key ≡ number_there key) → number_in (noted_at folder m numbers (record_path folder key)) key ≡ number_there key
    step_here numbers before =
        ap (λ b. number_in (if b then noted folder (record_path folder key) (read_text reading (get m (record_path folder key))) numbers else numbers) key) (record_ends folder key)
        ∙ noted_here key (read_text reading (get m (record_path folder key))) numbers is (elim before [
          | inl none ↦ inl none
          | inr same ↦ inr (same ∙ there_is)
        ])
        ∙ sym there_is

    step_at : (numbers : List (List ℕ × Option ℕ)) (path : List ℕ) → path ≡ record_path folder key → (number_in numbers key ≡ None) ⊎ (number_in numbers key ≡ number_there key) → number_in (noted_at folder m numbers path) key ≡ number_there key
    step_at numbers path at before = subst (λ p. number_in (noted_at folder m numbers p) key ≡ number_there key) (sym at) (step_here numbers before)

    step_off : (numbers : List (List ℕ × Option ℕ)) (path : List ℕ) → path ≢ record_path folder key → number_in (noted_at folder m numbers path) key ≡ number_in numbers key
    step_off numbers path off = step_apart path key numbers (λ k is_k at same. off (sym at ∙ ap (record_path folder) (sym same)))

    all_keep : (paths : List (List ℕ)) (numbers : List (List ℕ × Option ℕ)) → number_in numbers key ≡ number_there key → number_in (fold (noted_at folder m) numbers paths) key ≡ number_there key
    all_keep [] numbers same = same
    all_keep (p ∷ ps) numbers same = elim (is_same p (record_path folder key)) [
      | inl at ↦ all_keep ps (noted_at folder m numbers p) (step_at numbers p at (inr same))
      | inr off ↦ all_keep ps (noted_at folder m numbers p) (step_off numbers p off ∙ same)
    ]

    one_finds : (paths : List (List ℕ)) (numbers : List (List ℕ × Option ℕ)) → number_in numbers key ≡ None → Contains paths (record_path folder key) → number_in (fold (noted_at folder m) numbers paths) key ≡ number_there key
    one_finds [] numbers none has = absurd (contains_none (record_path folder key) has)
    one_finds (p ∷ ps) numbers none has = elim (is_same p (record_path folder key)) [
      | inl at ↦ all_keep ps (noted_at folder m numbers p) (step_at numbers p at (inl none))
      | inr off ↦ elim (contains_cases p ps (record_path folder key) has) [
        | inl at ↦ absurd (off at)
        | inr more ↦ one_finds ps (noted_at folder m numbers p) (step_off numbers p off ∙ none) more
      ]
    ]

  none_wrong : (key : List ℕ) → is_key key ≡ false → (paths : List (List ℕ)) (numbers : List (List ℕ × Option ℕ)) → number_in (fold (noted_at folder m) numbers paths) key ≡ number_in numbers key
  none_wrong key wrong [] numbers = refl
  none_wrong key wrong (p ∷ ps) numbers = none_wrong key wrong ps (noted_at folder m numbers p) ∙ step_apart p key numbers (λ k is_k at same. false≢true (sym wrong ∙ ap is_key same ∙ is_k))

module _ (folder : List ℕ) (w : World) where
  by_text : (key : List ℕ) (o : Option (List ℕ)) → is_key key ≡ true → get w.files (record_path folder key) ≡ o → number_in (fold (noted_at folder w.files) [] (listed_directly folder w)) key ≡ number_if (record_at reading folder w.files key)
  by_text key None is at = all_keep folder w.files key is (listed_directly folder w) [] (sym (ap number_if (text_at reading folder w.files key None is at)))
  by_text key (Some text) is at = one_finds folder w.files key is (listed_directly folder w) [] refl (record_listed folder w key text is at)

  open_held : HasNumbers (record_at reading folder w.files) (fold (noted_at folder w.files) [] (listed_directly folder w))
  open_held key = elim (cases_Bool (is_key key)) [
    | inl is ↦ by_text key (get w.files (record_path folder key)) is refl
    | inr wrong ↦ none_wrong folder w.files key wrong (listed_directly folder w) [] ∙ sym (ap number_if (no_key reading folder w.files key wrong))
  ]

pub opened_held : (folder : List ℕ) (old mid : World) (paths : List (List ℕ)) (empty numbers : List (List ℕ × Option ℕ)) → mid ≡ old → paths ≡ listed_directly folder old → empty ≡ [] → numbers ≡ fold (noted_at folder mid.files) empty paths
    → HasNumbers (record_at reading folder old.files) numbers
opened_held folder old mid paths empty numbers same are none is =
    subst (HasNumbers (record_at reading folder old.files))
    (sym (is ∙ ap (λ (w : World). fold (noted_at folder w.files) empty paths) same ∙ ap (λ ps. fold (noted_at folder old.files) empty ps) are ∙ ap (λ ns. fold (noted_at folder old.files) ns (listed_directly folder old)) none))
    (open_held folder old)
