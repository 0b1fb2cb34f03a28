-- A folder stays sound, where each record is gone, is as it was, or is a true one with a new number.
use Rattle.std.proofs.Common.{◌≡◌, ◌∙◌, ℕ, List, Some, None, Contains, sym, ap, subst}
use Rattle.pb_place_types.specs.Folders.{files_in}
use Rattle.pb_place_types.specs.Paths.{is_below}
use Rattle.pb_place_types.specs.World.{Map, Answers}
use Rattle.pb_record.specs.Commands.{command_of}
use Rattle.pb_record.specs.declared.record.Needed.{Needed}
use Rattle.pb_record.specs.declared.record.Needed.TheVariants.{Copies, Numbers}
use Rattle.pb_record.specs.declared.record.Record.{Record}
use Rattle.pb_store_soundness.specs.Inputs.{Judge, SameBelow, reply_in}
use Rattle.pb_store_soundness.specs.Records.{RecordParser, out_of, record_at, number_of, needs_of}
use Rattle.pb_store_soundness.specs.Grounded.{RecordMap, Grounded, grounded, Reaches, named, onward}
use Rattle.pb_store_soundness.specs.Sound.{Sound, IsTrueRecord, TrueBy, Rests, Backs}
use Rattle.pb_store_soundness.proofs.Elements.{any_at, inside_same}
use Rattle.pb_store_soundness.specs.Laws.{Became, gone, stays, renewed, StaysSound}

pub one : {A : Type 0} (x y : A) → Some x ≡ Some y → x ≡ y
one x y e = cc

pub none_some : {A : Type 0} (x : A) → None ≡ Some x → ⊥
none_some x e = cc

-- a grounded unit: its record, and what it names
pub grounded_number : (at : RecordMap) (key : List ℕ) (number : ℕ) (r : Record) → Grounded at key number → at key ≡ Some r → number_of r ≡ Some number
grounded_number at key number r (grounded k s n here numbered less needs) is = ap number_of (one r s (sym is ∙ here)) ∙ numbered

pub grounded_stands : (at : RecordMap) (key : List ℕ) (number : ℕ) → Grounded at key number → at key ≡ None → ⊥
grounded_stands at key number (grounded k s n here numbered less needs) is = none_some s (sym is ∙ here)

pub need_grounded : (at : RecordMap) (key : List ℕ) (number : ℕ) (r : Record) → Grounded at key number → at key ≡ Some r → (need : List ℕ) (n : ℕ) → Contains (needs_of r) (need, n) → Grounded at need n
need_grounded at key number r (grounded k s m here numbered less needs) is need n names = needs need n (subst (λ (t : Record). Contains (needs_of t) (need, n)) (one r s (sym is ∙ here)) names)

-- from a grounded unit only grounded ones are reached
pub reached_grounded : (at : RecordMap) (key v : List ℕ) (number : ℕ) → Grounded at key number → Reaches at key v → (n : ℕ) × Grounded at v n
reached_grounded at key v number is (named k r here need n names) = (n, need_grounded at key number r is here need n names)
reached_grounded at key v number is (onward k r here need n names further more) = reached_grounded at need v n (need_grounded at key number r is here need n names) more

-- the record, the files of a unit are as they were
pub record Stays (read : RecordParser) (folder : List ℕ) (old new : Map) (key : List ℕ) : Type 0 where
  pub standing : record_at read folder new key ≡ record_at read folder old key
  pub files : files_in (out_of folder key) new ≡ files_in (out_of folder key) old

module _ (read : RecordParser) (folder : List ℕ) (old new : Map) (Said : List ℕ → Record → Type 0) (each : (key : List ℕ) → Became read folder old new Said key) where
  abbrev pub Old : RecordMap
  Old = record_at read folder old

  abbrev pub New : RecordMap
  New = record_at read folder new

  named_stays : (key : List ℕ) (r : Record) → Old key ≡ Some r → (need : List ℕ) (n : ℕ) → Contains (needs_of r) (need, n) → Grounded New need n → Became read folder old new Said need → Stays read folder old new need
  named_stays key r was need n names is (gone none) = absurd (grounded_stands New need n is none)
  named_stays key r was need n names is (stays standing files) = record { standing = standing; files = files }
  named_stays key r was need n names is (renewed s number there numbered unnamed said) =
      absurd (unnamed key r was (subst (λ m. Contains (needs_of r) (need, m)) (one n number (sym (grounded_number New need n s is there) ∙ numbered)) names))

  pub need_stays : (key : List ℕ) (number : ℕ) (r : Record) → Stays read folder old new key → Grounded New key number → New key ≡ Some r → (need : List ℕ) (n : ℕ) → Contains (needs_of r) (need, n) → Stays read folder old new need
  need_stays key number r same is there need n names = named_stays key r (sym same.standing ∙ there) need n names (need_grounded New key number r is there need n names) (each need)

  -- what is grounded now was grounded
  pub was_grounded : (key : List ℕ) (number : ℕ) → Stays read folder old new key → Grounded New key number → Grounded Old key number
  was_grounded key number same (grounded k r m here numbered less needs) =
      grounded key r number (sym same.standing ∙ here) numbered less
      (λ need n names. was_grounded need n (named_stays key r (sym same.standing ∙ here) need n names (needs need n names) (each need)) (needs need n names))

  -- and reaches what it reached
  pub reached : (key v : List ℕ) (number : ℕ) → Stays read folder old new key → Grounded New key number → Reaches New key v → Reaches Old key v
  reached key v number same is (named k r here need n names) = named key r (sym same.standing ∙ here) need n names
  reached key v number same is (onward k r here need n names further more) =
      onward key r (sym same.standing ∙ here) need n names v (reached need v n (need_stays key number r same is here need n names) (need_grounded New key number r is here need n names) more)

  pub reaches : (key v : List ℕ) (number : ℕ) → Stays read folder old new key → Grounded New key number → Reaches Old key v → Reaches New key v
  reaches key v number same is (named k r here need n names) = named key r (same.standing ∙ here) need n names
  reaches key v number same is (onward k r here need n names further more) =
      onward key r (same.standing ∙ here) need n names v (reaches need v n (need_stays key number r same is (same.standing ∙ here) need n names) (need_grounded New key number r is (same.standing ∙ here) need n names) more)

  pub reached_stays : (key v : List ℕ) (number : ℕ) → Stays read folder old new key → Grounded New key number → Reaches New key v → Stays read folder old new v
  reached_stays key v number same is (named k r here need n names) = need_stays key number r same is here need n names
  reached_stays key v number same is (onward k r here need n names further more) =
      reached_stays need v n (need_stays key number r same is here need n names) (need_grounded New key number r is here need n names) more

module _ (read : RecordParser) (judge : Judge) (child : Answers) (folder : List ℕ) (old new : Map) (each : (key : List ℕ) → Became read folder old new (IsTrueRecord judge child folder (record_at read folder new) new) key) where
  abbrev Was : RecordMap
  Was = record_at read folder old

  abbrev Now : RecordMap
  Now = record_at read folder new

  abbrev Said : List ℕ → Record → Type 0
  Said = IsTrueRecord judge child folder (record_at read folder new) new

  -- so below the `reads` of a grounded unit that is as it was stands what stood there
  below_reads : (key : List ℕ) (number : ℕ) (r : Record) → Stays read folder old new key → Grounded Now key number → Rests judge child folder Was old key r → SameBelow r.asked.reads old new
  below_reads key number r same is rests q below =
      let (f, has, inside) = any_at (λ x. is_below x q) r.asked.reads below in
      let (v, far, at) = (rests.reads f).0 has in
      let there : files_in f new ≡ files_in f old = subst (λ x. files_in x new ≡ files_in x old) (sym at) (reached_stays read folder old new Said each key v number same is (reaches read folder old new Said each key v number same is far)).files in
      inside_same f old new there q inside

  rests_still : (key : List ℕ) (number : ℕ) (r : Record) → Stays read folder old new key → Grounded Now key number → Rests judge child folder Was old key r → Rests judge child folder Now new key r
  rests_still key number r same is rests = record {
    reads = λ f. (λ has. let (v, far, at) = (rests.reads f).0 has in (v, reaches read folder old new Said each key v number same is far, at), λ h. (rests.reads f).1 (h.0, reached read folder old new Said each key h.0 number same is h.1, h.2));
    gives = λ x agree below. subst (λ m. Backs judge r (out_of folder key) m (reply_in child (command_of r.asked) x)) (sym same.files) (rests.gives x agree (λ q inside. below q inside ∙ below_reads key number r same is rests q inside));
  }

  true_still : (key : List ℕ) (r : Record) (needed : Needed) → Stays read folder old new key → TrueBy judge child folder Was old key r needed → TrueBy judge child folder Now new key r needed
  true_still key r (Copies copies) same true_then = record {
    read = true_then.read;
    gives = λ x agree holds. subst (λ m. Backs judge r (out_of folder key) m (reply_in child (command_of r.asked) x)) (sym same.files) (true_then.gives x agree holds);
  }
  true_still key r (Numbers number needs) same true_then = record {
    read = true_then.read;
    less = true_then.less;
    rests = λ is. rests_still key number r same is (true_then.rests (was_grounded read folder old new Said each key number same is));
  }

  true_now : (key : List ℕ) (r : Record) → Sound read judge child folder old → Now key ≡ Some r → Became read folder old new Said key → IsTrueRecord judge child folder Now new key r
  true_now key r sound at (gone none) = absurd (none_some r (sym none ∙ at))
  true_now key r sound at (stays standing files) = record { says = true_still key r r.needed record { standing = standing; files = files } (sound.each key r (sym standing ∙ at)).says }
  true_now key r sound at (renewed s number there numbered unnamed is) = subst (λ t. IsTrueRecord judge child folder Now new key t) (one s r (sym there ∙ at)) is

  pub sound_still : Sound read judge child folder old → Sound read judge child folder new
  sound_still sound = record { each = λ key r at. true_now key r sound at (each key) }

pub stays_sound : StaysSound
stays_sound read judge child folder old new each sound = sound_still read judge child folder old new each sound
