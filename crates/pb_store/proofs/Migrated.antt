-- A record that gets a number and the numbers of the needed units may be put.
use Rattle.std.proofs.Common.{◌≡◌, ◌∙◌, ℕ, true, false, not, List, Option, Some, None, Result, Ok, Err, is_some, refl, sym, ap, subst, cond, inl, inr}
use Rattle.std.proofs.lemmas.Bool.{cases_Bool, false≢true}
use Rattle.std.proofs.lemmas.Slice.Eq.{bytes_eq-Decides}
use Rattle.std.specs.FinMap.{get}
use Rattle.std.specs.Prelude.{IfErr, OnOk}
use Rattle.std.specs.Str.{bytes_eq}
use Rattle.pb_place_types.specs.Folders.{files_in}
use Rattle.pb_place_types.specs.Paths.{is_path}
use Rattle.pb_place_types.specs.World.{World, Answers}
use Rattle.pb_place_types.specs.declared.command.Command.{Command}
use Rattle.pb_record.specs.Commands.{command_of}
use Rattle.pb_record.specs.declared.record.Record.{Record}
use Rattle.pb_store_soundness.specs.Inputs.{Judge, Agrees, IsHonest, reply_in}
use Rattle.pb_store_soundness.specs.Numbers.{after, IsBefore, NamesBefore, IsAhead}
use Rattle.pb_store_soundness.specs.Records.{is_key, out_of, record_path, read_text, reading, records, if_of_key, number_of}
use Rattle.pb_store_soundness.specs.Sound.{Sound, Backs}
use Rattle.pb_store_soundness.proofs.Ahead.{given_ahead}
use Rattle.pb_store_soundness.proofs.Becoming.{one, none_some}
use Rattle.pb_store_soundness.proofs.RecordPaths.{its_key, text_at}
use Rattle.pb_store_soundness.proofs.Renewing.{reuse}
use Rattle.pb_store.specs.Calls.{looked, MayWrite}
use Rattle.pb_store.specs.Folder.{MigratesRecord, PutsRecord, IsAfterPut, HasNumbers, HasNeeds, MayPut, numbered, IsMigrated, lacks_number, migrated, migrated_by, numbered_record}
use Rattle.pb_store.specs.declared.store.Store.{Store}
use Rattle.pb_store.specs.declared.fault.StoreFault.{StoreFault}
use Rattle.pb_store.proofs.Called.{no_look}
use Rattle.pb_store.proofs.Earned.{names_stand, unnamed_of, before_less}

-- a record that counts has the key of its place
key_of : (key : List ℕ) (r : Record) (o : Option Record) → if_of_key key o ≡ Some r → r.key ≡ key
key_of key r None there = absurd (none_some r there)
key_of key r (Some t) there = elim (cases_Bool (bytes_eq t.key key)) [
  | inl same ↦ ap (λ (s : Record). s.key) (one r t (sym there ∙ ap (λ b. cond b (Some t) None) same)) ∙ (bytes_eq-Decides t.key key).0 same
  | inr apart ↦ absurd (none_some r (sym (ap (λ b. cond b (Some t) None) apart) ∙ there))
]

pub stands_by_key : (folder key : List ℕ) (w : World) (r : Record) → records folder w key ≡ Some r → r.key ≡ key
stands_by_key folder key w r there =
    key_of key r (read_text reading (get w.files (record_path folder key))) (sym (text_at reading folder w.files key (get w.files (record_path folder key)) (its_key reading folder w.files key r there) refl) ∙ there)

module _ (judge : Judge) (child : Answers) (folder key : List ℕ) (c : Command) (needs : List (List ℕ)) (number : ℕ) (old : World) (r : Record)
    (path : is_path folder ≡ true) (is : is_key key ≡ true) (may : IsMigrated judge child folder key c needs number old r) where
  abbrev given : Record
  given = numbered_record r number (numbered (records folder old) needs)

  has_needs : HasNeeds (records folder old) folder r.asked.reads needs number
  has_needs = subst (λ (d : Command). HasNeeds (records folder old) folder d.reads needs number) (sym may.same.asked) may.needs_stand

  backed : Sound reading judge child folder old.files → Backs judge r (out_of folder key) (files_in (out_of folder key) old.files) (reply_in child (command_of r.asked) old)
  backed sound = subst (λ (d : Command). Backs judge r (out_of folder key) (files_in (out_of folder key) old.files) (reply_in child d old)) (sym may.same.asked)
      (reuse reading judge child folder key c old r sound may.same may.reads_grounded)

  migrated_may : Sound reading judge child folder old.files → MayPut reading judge child folder key old given number
  migrated_may sound = let b = backed sound in record {
    honest = subst (λ (d : Command). IsHonest judge child d old) (sym may.same.asked) may.honest;
    agree = subst (λ (d : Command). Agrees d.target r.inputs old) (sym may.same.asked) may.same.inputs;
    backs = record { good = b.good; status = b.status; stdout = b.stdout; stderr = b.stderr; files = b.files };
    names = names_stand (records folder old) folder needs given number has_needs refl;
    path = path;
    key_is = is;
    its_key = stands_by_key folder key old r may.same.stands;
    numbered = refl;
    unnamed = unnamed_of (records folder old) key number may.unnamed;
  }

  migrated_before : NamesBefore (after number) given
  migrated_before = let before = (given_ahead (λ k. None) number (λ k s there. absurd (none_some s there))).1 in record {
    own = λ n own. subst (IsBefore (after number)) (one number n own) before;
    named = λ need n named. before_less (after number) n number ((names_stand (records folder old) folder needs given number has_needs refl).less need n named) before;
  }

none_there : (o : Option ℕ) → is_some o ≡ false → o ≡ None
none_there None is = refl
none_there (Some n) is = cc

on_ok : (result : Result Unit StoreFault) {P : Type 0} → P → OnOk result P
on_ok (Ok x) p = p
on_ok (Err e) p = tt

unlooked : (result : Result Unit StoreFault) (old new : World) → IfErr result MayWrite → IfErr result (λ e. looked e ≡ true → new ≡ old)
unlooked (Ok x) old new may = tt
unlooked (Err e) old new may = λ look. absurd (no_look e may look)

module _ (child : Answers) (key : List ℕ) (needs : List (List ℕ)) (old new : Store) (before now : World) where
  abbrev there : Option Record
  there = records old.folder before key

  -- the record was written with the next number
  module _ (kept : Record) (number : ℕ) (path : is_path old.folder ≡ true) (is : is_key key ≡ true) (found : there ≡ Some kept) (lacks : is_some (number_of kept) ≡ false) (was : old.next ≡ Some number) (taken : new.next ≡ after number) where
    its : (judge : Judge) (c : Command) (r : Record) → ((n : ℕ) → old.next ≡ Some n → IsMigrated judge child old.folder key c needs n before r) → IsMigrated judge child old.folder key c needs number before kept
    its judge c r may = let m = may number was in subst (IsMigrated judge child old.folder key c needs number before) (one r kept (sym m.same.stands ∙ found)) m

    lacking : lacks_number there ≡ true
    lacking = ap lacks_number found ∙ ap not lacks

    gets : migrated old.next (numbered (records old.folder before) needs) there ≡ Some (numbered_record kept number (numbered (records old.folder before) needs))
    gets =
        let pairs = numbered (records old.folder before) needs in
        ap (migrated old.next pairs) found ∙ ap (λ o. migrated_by o old.next pairs kept) (none_there (number_of kept) lacks) ∙ ap (λ o. migrated_by None o pairs kept) was

    pub renumbers : (result : Result Unit StoreFault) → PutsRecord child old.folder key (numbered_record kept number (numbered (records old.folder before) needs)) result before now
        → IfErr result MayWrite → OnOk result (HasNumbers (records old.folder now) new.numbers) → MigratesRecord child key needs result old new before now
    renumbers result put may numbers = record {
      sound = λ judge c r m sound. put.sound judge number (migrated_may judge child old.folder key c needs number before kept path is (its judge c r m) sound) sound;
      stands = subst (λ o. IsAfterPut result o there (records old.folder now key)) (sym gets) put.stands;
      ahead = λ judge c r m ahead. subst (IsAhead (records old.folder now)) (sym taken)
          (put.ahead (after number) (migrated_before judge child old.folder key c needs number before kept path is (its judge c r m))
          (given_ahead (records old.folder before) number (subst (IsAhead (records old.folder before)) was ahead)).0);
      numbers = numbers;
      taken = λ lack. on_ok result (number, was, taken);
      unused = λ has. absurd (false≢true (sym has ∙ lacking));
      cause = λ spent. lacking;
      spent = λ none. absurd (none_some number (sym none ∙ was));
      looked = unlooked result before now may;
    }

-- after a call that went well, a record that counts has a number
numbered_by_own : (own next : Option ℕ) (pairs : List (List ℕ × ℕ)) (r s : Record) → number_of r ≡ own → (not (is_some own) ≡ true → (number : ℕ) × (next ≡ Some number)) → migrated_by own next pairs r ≡ Some s → is_some (number_of s) ≡ true
numbered_by_own (Some n) next pairs r s own takes is = ap (λ (t : Record). is_some (number_of t)) (sym (one r s is)) ∙ ap is_some own
numbered_by_own None None pairs r s own takes is = let (number, none) = takes refl in absurd (none_some number none)
numbered_by_own None (Some n) pairs r s own takes is = ap (λ (t : Record). is_some (number_of t)) (sym (one (numbered_record r n pairs) s is))

numbered_if : (next : Option ℕ) (pairs : List (List ℕ × ℕ)) (found : Option Record) (s : Record) → (lacks_number found ≡ true → (number : ℕ) × (next ≡ Some number)) → migrated next pairs found ≡ Some s → is_some (number_of s) ≡ true
numbered_if next pairs None s takes is = absurd (none_some s is)
numbered_if next pairs (Some r) s takes is = numbered_by_own (number_of r) next pairs r s refl takes is

pub now_numbered : (child : Answers) (key : List ℕ) (needs : List (List ℕ)) (old new : Store) (before now : World) → MigratesRecord child key needs (Ok tt) old new before now
    → (s : Record) → records old.folder now key ≡ Some s → is_some (number_of s) ≡ true
now_numbered child key needs old new before now m s there =
    numbered_if old.next (numbered (records old.folder before) needs) (records old.folder before key) s (λ lacks. let (number, was, taken) = m.taken lacks in (number, was)) (sym m.stands ∙ there)
