-- Soundness in the words of a place's calls.
use Rattle.std.proofs.Common.{◌≡◌, ◌⊎◌, ◌∙◌, ◌<◌, ◌++◌, ◌&&◌, ℕ, true, not, cond, codes, List, take, length, Option, Some, None, refl, sym, ap, subst, inl, inr}
use Rattle.std.proofs.lemmas.Bool.{cases_Bool, cases_lt}
use Rattle.std.proofs.lemmas.List.{take_all}
use Rattle.std.proofs.lemmas.Slice.Eq.{bytes_eq-Decides}
use Rattle.std.specs.List.{list_all}
use Rattle.std.specs.FinMap.{get}
use Rattle.std.specs.Str.{bytes_eq}
use Rattle.pb_place_types.specs.Paths.{is_path, is_relative, is_name, is_at_or_below}
use Rattle.pb_place_types.specs.World.{World, Map, Answers, AgreeBut, Torn, PartlyRemoved, written, removed}
use Rattle.pb_place_types.proofs.Folders.{only_written, only_torn, only_removed}
use Rattle.pb_place_types.proofs.TakenApart.{parts_lone}
use Rattle.pb_place_types.proofs.Within.{at_itself}
use Rattle.pb_place_types.proofs.Worlds.{written-read, removed-read}
use Rattle.pb_record.specs.declared.record.Record.{Record}
use Rattle.pb_record.specs.Parts.{ReadsAs, Says, FindsAsReading}
use Rattle.pb_record.proofs.LawLemmas.{one_reading, first_parts}
use Rattle.pb_store_soundness.specs.Grounded.{RecordMap}
use Rattle.pb_store_soundness.specs.Numbers.{IsAhead, NamesBefore, after}
use Rattle.pb_store_soundness.specs.Inputs.{Judge}
use Rattle.pb_store_soundness.specs.Records.{RecordParser, is_key, out_of, record_path, record_at, read_text, if_of_key}
use Rattle.pb_store_soundness.specs.Sound.{Sound, IsTrueRecord}
use Rattle.pb_store_soundness.specs.Laws.{Became, stays}
use Rattle.pb_store.specs.Folder.{Leaves, MayPut}
use Rattle.pb_store_soundness.proofs.Becoming.{stays_sound, one, none_some}
use Rattle.pb_store_soundness.proofs.Four.{by_key, other_stays, without_record}
use Rattle.pb_store_soundness.proofs.RecordPaths.{key_facts, record_named, record_plain, record_same, text_at, is_same, no_key, records_differ, folder_still, out_record_apart}
use Rattle.pb_store_soundness.proofs.Renewing.{renew}
use Rattle.pb_store_soundness.proofs.Ahead.{stays_ahead, given_ahead}

-- the name of a record is a path in a folder
pub record_relative : (key : List ℕ) → is_key key ≡ true → is_relative (key ++ codes ".record") ≡ true
record_relative key is =
    ap (list_all is_name) (parts_lone (key ++ codes ".record") (record_plain key (key_facts key is).plain)) ∙ ap (λ b. b && true) (record_named key (key_facts key is).named)

-- what is read of a text is its reading
pub read_as : (read : RecordParser) (text : List ℕ) (found : Option Record) → FindsAsReading read → ReadsAs text found → found ≡ read text
read_as read text found is reads = one_reading text found (read text) reads (is text)

pub read_as_some : (read : RecordParser) (o : Option (List ℕ)) (text passed : List ℕ) (found : Option Record) → FindsAsReading read → o ≡ Some text → passed ≡ text → ReadsAs passed found → found ≡ read_text read o
read_as_some read o text passed found is there given reads = read_as read passed found is reads ∙ ap read given ∙ sym (ap (read_text read) there)

-- the text of a record is read as it, and a first part of it as nothing else
pub says_read : (read : RecordParser) (text : List ℕ) (r : Record) → FindsAsReading read → Says text r → read text ≡ Some r
says_read read text r is says = (is text r).1 says

part_short : (text : List ℕ) (r s : Record) (n : ℕ) → Says text r → n < length text → Says (take n text) s → ⊥
part_short text r s n says less part =
    first_parts n r s (subst (λ t. n < length t) says.same less) (subst (λ t. Says (take n t) s) says.same part)

pub says_parts : (read : RecordParser) (text : List ℕ) (r : Record) → FindsAsReading read → Says text r → (n : ℕ) (s : Record) → read (take n text) ≡ Some s → s ≡ r
says_parts read text r is says n s reads = elim (cases_lt n (length text)) [
  | inl less ↦ absurd (part_short text r s n says less ((is (take n text) s).0 reads))
  | inr whole ↦ one s r (sym reads ∙ ap read (take_all n text whole) ∙ says_read read text r is says)
]

-- a text in its key's place
of_key : (key : List ℕ) (r : Record) → r.key ≡ key → if_of_key key (Some r) ≡ Some r
of_key key r same = ap (λ b. cond b (Some r) None) ((bytes_eq-Decides r.key key).1 same)

module _ (read : RecordParser) (folder : List ℕ) where
  pub read_there : (m : Map) (key text : List ℕ) (r : Record) → is_key key ≡ true → get m (record_path folder key) ≡ Some text → read text ≡ Some r → r.key ≡ key → record_at read folder m key ≡ Some r
  read_there m key text r is at reads same = text_at read folder m key (Some text) is at ∙ ap (if_of_key key) reads ∙ of_key key r same

  pub none_there : (m : Map) (key : List ℕ) → is_key key ≡ true → get m (record_path folder key) ≡ None → record_at read folder m key ≡ None
  none_there m key is at = text_at read folder m key None is at

  pub unread_there : (m : Map) (key text : List ℕ) → is_key key ≡ true → get m (record_path folder key) ≡ Some text → read text ≡ None → record_at read folder m key ≡ None
  unread_there m key text is at reads = text_at read folder m key (Some text) is at ∙ ap (if_of_key key) reads

module _ (read : RecordParser) (folder key : List ℕ) (next : Option ℕ) (path : is_path folder ≡ true) (is : is_key key ≡ true) where
  -- where only a record's place changes, and the record there is gone, as it was, or names only numbers below the next one
  pub record_ahead : (old new : Map) → AgreeBut (is_at_or_below (record_path folder key)) old new
      → (record_at read folder new key ≡ None) ⊎ ((record_at read folder new key ≡ record_at read folder old key) ⊎ ((r : Record) → record_at read folder new key ≡ Some r → NamesBefore next r))
      → IsAhead (record_at read folder old) next → IsAhead (record_at read folder new) next
  record_ahead old new only here = stays_ahead (record_at read folder old) (record_at read folder new) next
      (λ l. elim (is_same key l) [
        | inl same ↦ subst (λ k. (record_at read folder new k ≡ None) ⊎ ((record_at read folder new k ≡ record_at read folder old k) ⊎ ((r : Record) → record_at read folder new k ≡ Some r → NamesBefore next r))) same here
        | inr apart ↦ elim (cases_Bool (is_key l)) [
          | inl is_l ↦ inr (inl (record_same read folder old new l (only _ (records_differ folder key l is is_l apart))))
          | inr wrong ↦ inl (no_key read folder new l wrong)
        ]
      ])

  pub removed_ahead_at : (p : List ℕ) (old new : World) → new ≡ removed p old → p ≡ record_path folder key → IsAhead (record_at read folder old.files) next → IsAhead (record_at read folder new.files) next
  removed_ahead_at p old new same at = record_ahead old.files new.files (only_removed (record_path folder key) old new (same ∙ ap (λ x. removed x old) at)).files
      (inl (none_there read folder new.files key is (removed-read (record_path folder key) (record_path folder key) old new (same ∙ ap (λ x. removed x old) at) ∙ ap (λ b. cond (not b) (get old.files (record_path folder key)) None) (at_itself (record_path folder key) (record_path folder key) refl))))

  partly_ahead : (old new : World) → PartlyRemoved (record_path folder key) old new → IsAhead (record_at read folder old.files) next → IsAhead (record_at read folder new.files) next
  partly_ahead old new partly = elim (partly.files.there (record_path folder key)) [
    | inl same ↦ record_ahead old.files new.files partly.files.only (inr (inl (record_same read folder old.files new.files key same)))
    | inr none ↦ record_ahead old.files new.files partly.files.only (inl (none_there read folder new.files key is none))
  ]

  pub partly_ahead_at : (p : List ℕ) (old new : World) → PartlyRemoved p old new → p ≡ record_path folder key → IsAhead (record_at read folder old.files) next → IsAhead (record_at read folder new.files) next
  partly_ahead_at p old new partly at = partly_ahead old new (subst (λ x. PartlyRemoved x old new) at partly)

module _ (read : RecordParser) (judge : Judge) (child : Answers) (folder key : List ℕ) (path : is_path folder ≡ true) (is : is_key key ≡ true) where
  -- a record that is removed
  pub removed_sound : (old new : World) → new ≡ removed (record_path folder key) old → Sound read judge child folder old.files → Sound read judge child folder new.files
  removed_sound old new same sound = without_record read judge child folder old.files new.files key path is
      (none_there read folder new.files key is (removed-read (record_path folder key) (record_path folder key) old new same ∙ ap (λ b. cond (not b) (get old.files (record_path folder key)) None) (at_itself (record_path folder key) (record_path folder key) refl)))
      (only_removed (record_path folder key) old new same).files sound

  -- where no text in a record's place changes, though what is below it may
  text_stays : (old new : Map) → get new (record_path folder key) ≡ get old (record_path folder key) → AgreeBut (is_at_or_below (record_path folder key)) old new → Sound read judge child folder old → Sound read judge child folder new
  text_stays old new same only sound = stays_sound read judge child folder old new
      (λ l. by_key read folder old new (IsTrueRecord judge child folder (record_at read folder new) new) key l
      (λ is_l e. subst (Became read folder old new (IsTrueRecord judge child folder (record_at read folder new) new)) e
      (stays (record_same read folder old new key same) (folder_still (out_of folder key) (record_path folder key) old new (out_record_apart folder key key path is is) only)))
      (λ is_l apart. let s = other_stays read folder old new (IsTrueRecord judge child folder (record_at read folder new) new) key l path is is_l apart only in stays s.standing s.files)) sound

  pub partly_sound : (old new : World) → PartlyRemoved (record_path folder key) old new → Sound read judge child folder old.files → Sound read judge child folder new.files
  partly_sound old new partly sound = elim (partly.files.there (record_path folder key)) [
    | inl same ↦ text_stays old.files new.files same partly.files.only sound
    | inr none ↦ without_record read judge child folder old.files new.files key path is (none_there read folder new.files key is none) partly.files.only sound
  ]

  -- a record that is written, and one whose writing failed
  put_sound : (old new : World) (r : Record) (number : ℕ) → MayPut read judge child folder key old r number → record_at read folder new.files key ≡ Some r → AgreeBut (is_at_or_below (record_path folder key)) old.files new.files
      → Sound read judge child folder old.files → Sound read judge child folder new.files
  put_sound old new r number may there only sound = renew read judge child folder key old new.files r number may.honest may.agree may.backs may.names record {
    path = may.path;
    key_is = may.key_is;
    there = there;
    numbered = may.numbered;
    unnamed = may.unnamed;
    only = only;
  } sound

  pub written_there : (old new : World) (r : Record) (text : List ℕ) → new ≡ written (record_path folder key) text old → read text ≡ Some r → r.key ≡ key → record_at read folder new.files key ≡ Some r
  written_there old new r text same reads its = read_there read folder new.files key text r is (written-read (record_path folder key) text old new same) reads its

  pub written_sound : (old new : World) (r : Record) (number : ℕ) (text : List ℕ) → MayPut read judge child folder key old r number → new ≡ written (record_path folder key) text old → read text ≡ Some r
      → Sound read judge child folder old.files → Sound read judge child folder new.files
  written_sound old new r number text may same reads sound = put_sound old new r number may (written_there old new r text same reads may.its_key)
      (only_written (record_path folder key) (record_path folder key) text old new (at_itself (record_path folder key) (record_path folder key) refl) same).files sound

  part_sound : (old new : World) (r : Record) (number : ℕ) (part : List ℕ) (o : Option Record) → MayPut read judge child folder key old r number → get new.files (record_path folder key) ≡ Some part → read part ≡ o → ((s : Record) → read part ≡ Some s → s ≡ r)
      → AgreeBut (is_at_or_below (record_path folder key)) old.files new.files → Sound read judge child folder old.files → Sound read judge child folder new.files
  part_sound old new r number part None may at reads parts only sound = without_record read judge child folder old.files new.files key path is (unread_there read folder new.files key part is at reads) only sound
  part_sound old new r number part (Some s) may at reads parts only sound =
      put_sound old new r number may (read_there read folder new.files key part r is at (reads ∙ ap Some (parts s reads)) may.its_key) only sound

  pub torn_sound : (old new : World) (r : Record) (number : ℕ) (text : List ℕ) → MayPut read judge child folder key old r number → Torn (record_path folder key) text old new
      → ((n : ℕ) (s : Record) → read (take n text) ≡ Some s → s ≡ r) → Sound read judge child folder old.files → Sound read judge child folder new.files
  torn_sound old new r number text may torn parts sound =
      let only = (only_torn (record_path folder key) (record_path folder key) text old new (at_itself (record_path folder key) (record_path folder key) refl) torn).files in
      elim torn.files.there [
        | inl same ↦ text_stays old.files new.files same only sound
        | inr other ↦ elim other [
          | inl none ↦ without_record read judge child folder old.files new.files key path is (none_there read folder new.files key is none) only sound
          | inr part ↦ part_sound old new r number (take part.0 text) (read (take part.0 text)) may part.1 refl (parts part.0) only sound
        ]
      ]

  -- the same, in the words of calls
  pub removed_sound_at : (p : List ℕ) (old new : World) → new ≡ removed p old → p ≡ record_path folder key → Sound read judge child folder old.files → Sound read judge child folder new.files
  removed_sound_at p old new same at sound = removed_sound old new (same ∙ ap (λ x. removed x old) at) sound

  pub partly_sound_at : (p : List ℕ) (old new : World) → PartlyRemoved p old new → p ≡ record_path folder key → Sound read judge child folder old.files → Sound read judge child folder new.files
  partly_sound_at p old new partly at sound = partly_sound old new (subst (λ x. PartlyRemoved x old new) at partly) sound

  pub written_sound_at : (p passed text : List ℕ) (old new : World) (r : Record) (number : ℕ) → new ≡ written p passed old → p ≡ record_path folder key → passed ≡ text → FindsAsReading read → Says text r → MayPut read judge child folder key old r number
      → Sound read judge child folder old.files → Sound read judge child folder new.files
  written_sound_at p passed text old new r number same at given reading says may sound =
      written_sound old new r number text may (same ∙ ap (λ x. written x passed old) at ∙ ap (λ x. written (record_path folder key) x old) given) (says_read read text r reading says) sound

  pub torn_sound_at : (p passed text : List ℕ) (old new : World) (r : Record) (number : ℕ) → Torn p passed old new → p ≡ record_path folder key → passed ≡ text → FindsAsReading read → Says text r → MayPut read judge child folder key old r number
      → Sound read judge child folder old.files → Sound read judge child folder new.files
  torn_sound_at p passed text old new r number torn at given reading says may sound =
      torn_sound old new r number text may (subst (λ x. Torn (record_path folder key) x old new) given (subst (λ x. Torn x passed old new) at torn)) (says_parts read text r reading says) sound

module _ (read : RecordParser) (folder key : List ℕ) (is : is_key key ≡ true) where
  pub removed_gone_at : (p : List ℕ) (old new : World) → new ≡ removed p old → p ≡ record_path folder key → record_at read folder new.files key ≡ None
  removed_gone_at p old new same at = none_there read folder new.files key is
      (removed-read (record_path folder key) (record_path folder key) old new (same ∙ ap (λ x. removed x old) at) ∙ ap (λ b. cond (not b) (get old.files (record_path folder key)) None) (at_itself (record_path folder key) (record_path folder key) refl))

  pub written_there_at : (p passed text : List ℕ) (old new : World) (r : Record) → new ≡ written p passed old → p ≡ record_path folder key → passed ≡ text → FindsAsReading read → Says text r → r.key ≡ key → record_at read folder new.files key ≡ Some r
  written_there_at p passed text old new r same at given reading says its =
      read_there read folder new.files key text r is (written-read (record_path folder key) text old new (same ∙ ap (λ x. written x passed old) at ∙ ap (λ x. written (record_path folder key) x old) given)) (says_read read text r reading says) its

module _ (read : RecordParser) (folder key : List ℕ) (next : Option ℕ) (path : is_path folder ≡ true) (is : is_key key ≡ true) where
  -- a record that counts after a write was in the text, or there before
  text_before : (m : Map) (r s : Record) (text : List ℕ) (o : Option Record) → NamesBefore next r → get m (record_path folder key) ≡ Some text → read text ≡ o → ((t : Record) → read text ≡ Some t → t ≡ r)
      → if_of_key key o ≡ Some s → NamesBefore next s
  text_before m r s text None before at reads only_one there = absurd (none_some s there)
  text_before m r s text (Some t) before at reads only_one there =
      subst (NamesBefore next) (sym (only_one t reads) ∙ of_itself t s there) before
    where
      of_itself : (t s : Record) → if_of_key key (Some t) ≡ Some s → t ≡ s
      of_itself t s h = elim (cases_Bool (bytes_eq t.key key)) [
        | inl same ↦ one t s (sym (ap (λ b. cond b (Some t) None) same) ∙ h)
        | inr apart ↦ absurd (none_some s (sym (ap (λ b. cond b (Some t) None) apart) ∙ h))
      ]

  text_ahead : (old new : Map) (r : Record) (text : List ℕ) → NamesBefore next r → AgreeBut (is_at_or_below (record_path folder key)) old new → get new (record_path folder key) ≡ Some text → ((t : Record) → read text ≡ Some t → t ≡ r)
      → IsAhead (record_at read folder old) next → IsAhead (record_at read folder new) next
  text_ahead old new r text before only at only_one = record_ahead read folder key next path is old new only
      (inr (inr (λ s there. text_before new r s text (read text) before at refl only_one (sym (text_at read folder new key (Some text) is at) ∙ there))))

  pub written_ahead_at : (p passed text : List ℕ) (old new : World) (r : Record) → new ≡ written p passed old → p ≡ record_path folder key → passed ≡ text → FindsAsReading read → Says text r → NamesBefore next r
      → IsAhead (record_at read folder old.files) next → IsAhead (record_at read folder new.files) next
  written_ahead_at p passed text old new r same at given reading says before =
      let there = same ∙ ap (λ x. written x passed old) at ∙ ap (λ x. written (record_path folder key) x old) given in
      text_ahead old.files new.files r text before (only_written (record_path folder key) (record_path folder key) text old new (at_itself (record_path folder key) (record_path folder key) refl) there).files
      (written-read (record_path folder key) text old new there) (λ t reads. one t r (sym reads ∙ says_read read text r reading says))

  torn_ahead : (text : List ℕ) (old new : World) (r : Record) → Torn (record_path folder key) text old new → FindsAsReading read → Says text r → NamesBefore next r
      → IsAhead (record_at read folder old.files) next → IsAhead (record_at read folder new.files) next
  torn_ahead text old new r torn reading says before =
      let only = (only_torn (record_path folder key) (record_path folder key) text old new (at_itself (record_path folder key) (record_path folder key) refl) torn).files in
      elim torn.files.there [
        | inl same ↦ record_ahead read folder key next path is old.files new.files only (inr (inl (record_same read folder old.files new.files key same)))
        | inr other ↦ elim other [
          | inl none ↦ record_ahead read folder key next path is old.files new.files only (inl (none_there read folder new.files key is none))
          | inr part ↦ text_ahead old.files new.files r (take part.0 text) before only part.1 (says_parts read text r reading says part.0)
        ]
      ]

  pub torn_ahead_at : (p passed text : List ℕ) (old new : World) (r : Record) → Torn p passed old new → p ≡ record_path folder key → passed ≡ text → FindsAsReading read → Says text r → NamesBefore next r
      → IsAhead (record_at read folder old.files) next → IsAhead (record_at read folder new.files) next
  torn_ahead_at p passed text old new r torn at given = torn_ahead text old new r (subst (λ x. Torn (record_path folder key) x old new) given (subst (λ x. Torn x passed old new) at torn))

-- what stands in a record's place after a removal or a writing, whatever became of it
module _ (read : RecordParser) (folder key : List ℕ) (is : is_key key ≡ true) where
  pub partly_left_at : (p : List ℕ) (old new : World) → PartlyRemoved p old new → p ≡ record_path folder key → Leaves None (record_at read folder old.files key) (record_at read folder new.files key)
  partly_left_at p old new partly at = elim ((subst (λ x. PartlyRemoved x old new) at partly).files.there (record_path folder key)) [
    | inl same ↦ inr (inl (record_same read folder old.files new.files key same))
    | inr none ↦ inl (none_there read folder new.files key is none)
  ]

  part_left : (m : Map) (before : Option Record) (r : Record) (part : List ℕ) (o : Option Record) → get m (record_path folder key) ≡ Some part → read part ≡ o → ((s : Record) → read part ≡ Some s → s ≡ r) → r.key ≡ key → Leaves (Some r) before (record_at read folder m key)
  part_left m before r part None at reads parts its = inl (unread_there read folder m key part is at reads)
  part_left m before r part (Some s) at reads parts its = inr (inr (read_there read folder m key part r is at (reads ∙ ap Some (parts s reads)) its))

  torn_left : (text : List ℕ) (old new : World) (r : Record) → Torn (record_path folder key) text old new → FindsAsReading read → Says text r → r.key ≡ key → Leaves (Some r) (record_at read folder old.files key) (record_at read folder new.files key)
  torn_left text old new r torn reading says its = elim torn.files.there [
    | inl same ↦ inr (inl (record_same read folder old.files new.files key same))
    | inr other ↦ elim other [
      | inl none ↦ inl (none_there read folder new.files key is none)
      | inr part ↦ part_left new.files (record_at read folder old.files key) r (take part.0 text) (read (take part.0 text)) part.1 refl (says_parts read text r reading says part.0) its
    ]
  ]

  pub torn_left_at : (p passed text : List ℕ) (old new : World) (r : Record) → Torn p passed old new → p ≡ record_path folder key → passed ≡ text → FindsAsReading read → Says text r → r.key ≡ key → Leaves (Some r) (record_at read folder old.files key) (record_at read folder new.files key)
  torn_left_at p passed text old new r torn at given = torn_left text old new r (subst (λ x. Torn (record_path folder key) x old new) given (subst (λ x. Torn x passed old new) at torn))

-- where the number is given after what was done, and the one after it is the next
pub dropped_ahead : (old new : RecordMap) (before then : Option ℕ) (number : ℕ) → before ≡ Some number → then ≡ after number → ((next : Option ℕ) → IsAhead old next → IsAhead new next) → IsAhead old before → IsAhead new then
dropped_ahead old new before then number was is kept ahead = subst (IsAhead new) (sym is) ((given_ahead new number (kept (Some number) (subst (IsAhead old) was ahead))).0)
