-- The four laws of soundness.
use Rattle.std.proofs.Common.{◌≡◌, ◌≢◌, ◌∙◌, ℕ, true, List, Some, None, sym, subst, inl, inr}
use Rattle.std.proofs.lemmas.Bool.{cases_Bool}
use Rattle.std.specs.FinMap.{get}
use Rattle.pb_place_types.specs.Folders.{files_in}
use Rattle.pb_place_types.specs.Paths.{is_path, is_at_or_below}
use Rattle.pb_place_types.specs.World.{Map, AgreeBut}
use Rattle.pb_place_types.proofs.Folders.{files_alike}
use Rattle.pb_place_types.proofs.Within.{at_below, below_on}
use Rattle.pb_record.specs.declared.record.Record.{Record}
use Rattle.pb_store_soundness.specs.Records.{RecordParser, is_key, out_of, record_path, record_at, number_of}
use Rattle.pb_store_soundness.specs.Sound.{IsTrueRecord}
use Rattle.pb_store_soundness.specs.Laws.{Became, gone, stays, renewed, Unnamed, OutsideLaw, InOutputLaw, WithoutRecordLaw, PutLaw}
use Rattle.pb_store_soundness.proofs.Becoming.{Stays, stays_sound}
use Rattle.pb_store_soundness.proofs.RecordPaths.{is_same, out_in, record_below, record_outside, records_differ, outs_apart, out_record_apart, folder_still, record_same, no_key}

module _ (read : RecordParser) (folder : List ℕ) (old new : Map) (Said : List ℕ → Record → Type 0) where
  -- a unit whose record's text and files are as they were
  unchanged : (l : List ℕ) → get new (record_path folder l) ≡ get old (record_path folder l) → files_in (out_of folder l) new ≡ files_in (out_of folder l) old → Became read folder old new Said l
  unchanged l text files = stays (record_same read folder old new l text) files

  -- by whether it is a key, and which
  pub by_key : (key l : List ℕ) → (is_key l ≡ true → key ≡ l → Became read folder old new Said l) → (is_key l ≡ true → key ≢ l → Became read folder old new Said l) → Became read folder old new Said l
  by_key key l this other = elim (cases_Bool (is_key l)) [
    | inl is ↦ elim (is_same key l) [
      | inl same ↦ this is same
      | inr apart ↦ other is apart
    ]
    | inr wrong ↦ gone (no_key read folder new l wrong)
  ]

  -- where only a record's place changes, another unit stays; and it has become so
  pub other_stays : (key l : List ℕ) → is_path folder ≡ true → is_key key ≡ true → is_key l ≡ true → key ≢ l → AgreeBut (is_at_or_below (record_path folder key)) old new → Stays read folder old new l
  other_stays key l path is is_l apart only = record {
    standing = record_same read folder old new l (only _ (records_differ folder key l is is_l apart));
    files = folder_still (out_of folder l) (record_path folder key) old new (out_record_apart folder l key path is_l is) only;
  }

  pub put_became : (key : List ℕ) (r : Record) (number : ℕ) → is_path folder ≡ true → is_key key ≡ true → record_at read folder new key ≡ Some r → number_of r ≡ Some number → Unnamed (record_at read folder old) key number
      → AgreeBut (is_at_or_below (record_path folder key)) old new → Said key r → (l : List ℕ) → Became read folder old new Said l
  put_became key r number path is there numbered unnamed only said l = by_key key l
      (λ is_l same. subst (Became read folder old new Said) same (renewed r number there numbered unnamed said))
      (λ is_l apart. let s = other_stays key l path is is_l apart only in stays s.standing s.files)

pub outside : OutsideLaw
outside read judge child folder old new same sound = stays_sound read judge child folder old new
    (λ l. elim (cases_Bool (is_key l)) [
      | inl is ↦ unchanged read folder old new (IsTrueRecord judge child folder (record_at read folder new) new) l (same _ (at_below folder _ (record_below folder l is)))
          (files_alike (out_of folder l) new old (λ q inside. same q (at_below folder q (below_on folder (out_of folder l) q (out_in folder l is) inside))))
      | inr wrong ↦ gone (no_key read folder new l wrong)
    ]) sound

pub in_output : InOutputLaw
in_output read judge child folder old new key path is none only sound = stays_sound read judge child folder old new
    (λ l. by_key read folder old new (IsTrueRecord judge child folder (record_at read folder new) new) key l
    (λ is_l same. gone (subst (λ k. record_at read folder new k ≡ None) same (record_same read folder old new key (only _ (record_outside folder key key is is)) ∙ none)))
    (λ is_l apart. unchanged read folder old new (IsTrueRecord judge child folder (record_at read folder new) new) l (only _ (record_outside folder key l is is_l))
    (folder_still (out_of folder l) (out_of folder key) old new (outs_apart folder l key path is_l is (λ e. apart (sym e))) only))) sound

pub without_record : WithoutRecordLaw
without_record read judge child folder old new key path is none only sound = stays_sound read judge child folder old new
    (λ l. by_key read folder old new (IsTrueRecord judge child folder (record_at read folder new) new) key l
    (λ is_l same. gone (subst (λ k. record_at read folder new k ≡ None) same none))
    (λ is_l apart. unchanged read folder old new (IsTrueRecord judge child folder (record_at read folder new) new) l (only _ (records_differ folder key l is is_l apart))
    (folder_still (out_of folder l) (record_path folder key) old new (out_record_apart folder l key path is_l is) only))) sound

pub put : PutLaw
put read judge child folder old new key r number path is there numbered unnamed only true_now sound =
    stays_sound read judge child folder old new (put_became read folder old new (IsTrueRecord judge child folder (record_at read folder new) new) key r number path is there numbered unnamed only true_now) sound
