-- What is kept of a build, where only one unit's folder and record change.
use Rattle.std.proofs.Common.{◌≡◌, ◌≢◌, ◌<◌, ◌∙◌, ℕ, true, false, List, length, Option, Some, Contains, refl, sym, ap, subst, inl, inr, slice_get}
use Rattle.std.proofs.lemmas.Bool.{cases_eq, false≢true}
use Rattle.pb_command_arguments.specs.Externs.{reads_of}
use Rattle.pb_command.specs.Judge.{judge}
use Rattle.pb_directive.specs.declared.directive.Directive.{Directive}
use Rattle.pb_run_flight.specs.declared.flight.State.{State}
use Rattle.pb_run_flight.specs.declared.flight.State.TheVariants.{Untouched}
use Rattle.pb_run_flight.specs.Table.{is_good_at, are_good}
use Rattle.pb_place_types.specs.World.{World, Map, Answers, ChangesOnly}
use Rattle.pb_command_types.specs.Targets.{unit_at}
use Rattle.pb_build_result.specs.declared.bad_unit.BadUnit.{BadUnit}
use Rattle.pb_record.specs.declared.record.Needed.{Needed}
use Rattle.pb_record.specs.declared.record.Needed.TheVariants.{Copies, Numbers}
use Rattle.pb_record.specs.declared.record.Record.{Record}
use Rattle.pb_run.specs.UnitSteps.{Premise, TrustedRecords, NoRecords, BuildContext, StandsGood, HasRecord, HoldsRecords, HoldsBy, BuildInvariant, command_in, needed_keys, records_in}
use Rattle.pb_run.specs.Invariants.{IsInOrder, IsReadByNeed, records_folder}
use Rattle.pb_run.proofs.Recorded.{all_at, all_of, command_for, read_reached, key_needed, needed_key, key_by_folder, keys_differ, sources_still, files_still, record_still}
use Rattle.pb_run.proofs.RecordedOthers.{IfRecords, far_of, same_still}
use Rattle.pb_store_soundness.specs.Apart.{is_of}
use Rattle.pb_store_soundness.specs.Grounded.{RecordMap, Grounded, Reaches}
use Rattle.pb_store_soundness.specs.Inputs.{Judge}
use Rattle.pb_store_soundness.specs.Numbers.{IsAhead}
use Rattle.pb_store_soundness.specs.Records.{number_in, number_of, out_of, reading}
use Rattle.pb_store_soundness.specs.Reuse.{AreGrounded}
use Rattle.pb_store_soundness.specs.Sound.{Sound, TrueBy, Rests}
use Rattle.pb_store_soundness.proofs.Becoming.{one, none_some, grounded_number}
use Rattle.pb_store_soundness.proofs.Flying.{unit_record}
use Rattle.pb_store_soundness.proofs.Renewing.{spares}
use Rattle.pb_store.specs.Folder.{ReadBy, itself, further, HasNeeds}
use Rattle.pb_unit.specs.declared.plan.Planned.{Planned}

-- a grounded record rests on what stands
rests_by : (judge : Judge) (child : Answers) (folder : List ℕ) (at : RecordMap) (files : Map) (key : List ℕ) (r : Record) (n : ℕ) (needed : Needed) → TrueBy judge child folder at files key r needed → number_in needed ≡ Some n → Grounded at key n → Rests judge child folder at files key r
rests_by judge child folder at files key r n (Copies copies) says is ground = absurd (none_some n is)
rests_by judge child folder at files key r n (Numbers m needs) says is ground = says.rests (subst (Grounded at key) (sym (one m n is)) ground)

-- Of the records of good units.

module _ (b : BuildContext) (order : IsInOrder b.project) (states : List (State BadUnit)) (next : Option ℕ) (w : World) (holds : HoldsRecords b states next w) where
  abbrev At : RecordMap
  At = records_in b w

  abbrev Folder : List ℕ
  Folder = records_folder b.project

  good_record : (index : ℕ) (v : Planned) → unit_at b.project index ≡ Some v → is_good_at (slice_get states index) ≡ true
      → (kept : Record) × (At v.key ≡ Some kept) × ((n : ℕ) × Grounded At v.key n × (number_of kept ≡ Some n)) × (kept.asked.reads ≡ reads_of b.project v)
  good_record index v there good =
      let h = holds.recorded index good in
      let is : h.unit ≡ v = one h.unit v (sym h.there ∙ there) in (
        h.kept,
        subst (λ (x : Planned). At x.key ≡ Some h.kept) is h.here,
        (h.number, subst (λ (x : Planned). Grounded At x.key h.number) is h.grounded, grounded_number At h.unit.key h.number h.kept h.grounded h.here),
        subst (λ (x : Planned). h.kept.asked.reads ≡ reads_of b.project x) is h.reads,
      )

  -- all that a unit reads is grounded, where all that it reaches is good
  pub reads_grounded : (v : Planned) (reads : List (List ℕ)) → reads ≡ reads_of b.project v → are_good states v.reaches ≡ true → AreGrounded At Folder reads
  reads_grounded v reads are good key has =
      let (x, where', is) = read_reached b.project order v (out_of Folder key) (subst (λ (l : List (List ℕ)). Contains l (out_of Folder key)) are has) in
      let (kept, here, (n, ground, numbered), its) = good_record where'.index x where'.there (all_at (λ p. is_good_at (slice_get states p)) v.reaches where'.index good where'.among) in
      (n, subst (λ k. Grounded At k n) (sym (key_by_folder b.project order x where'.index key where'.there is)) ground)

  -- the units that a unit needs have their records, and what they read and their folders are what it reads
  pub has_needs : (index : ℕ) (v : Planned) (number : ℕ) → unit_at b.project index ≡ Some v → are_good states v.reaches ≡ true
      → ((key : List ℕ) (r : Record) (n : ℕ) → At key ≡ Some r → number_of r ≡ Some n → n < number)
      → HasNeeds At Folder (reads_of b.project v) (needed_keys b.project v) number
  has_needs index v number there good below = record {
    stand = λ need has.
        let (x, where', is) = key_needed b.project order v need has in
        let (kept, here, (n, ground, numbered), its) = good_record where'.index x where'.there (need_good where'.index where'.among) in
        (kept, ap At is ∙ here, (n, numbered, below x.key kept n here numbered));
    reads_are = λ f. (λ has. on f ((order.reads_are index v there f).0 has), λ by. (order.reads_are index v there f).1 (back f by));
  }
    where
      need_good : (p : ℕ) → Contains v.needs p → is_good_at (slice_get states p) ≡ true
      need_good p among = all_at (λ q. is_good_at (slice_get states q)) v.reaches p good (order.needs_reached index v there p among)

      on : (f : List ℕ) → IsReadByNeed b.project v f → ReadBy At Folder (needed_keys b.project v) f
      on f is = elim is.own_or_read [
        | inl own ↦ itself is.need.key (needed_key b.project order v is.need is.index is.needed is.there) (own ∙ order.folders is.index is.need is.there)
        | inr read ↦ let (kept, here, ground, its) = good_record is.index is.need is.there (need_good is.index is.needed) in
            further is.need.key kept (needed_key b.project order v is.need is.index is.needed is.there) here (subst (λ (l : List (List ℕ)). Contains l f) (sym its) read)
      ]

      back : (f : List ℕ) → ReadBy At Folder (needed_keys b.project v) f → IsReadByNeed b.project v f
      back f (itself need has is) =
          let (x, where', same) = key_needed b.project order v need has in
          record { index = where'.index; needed = where'.among; need = x; there = where'.there; own_or_read = inl (is ∙ ap (out_of Folder) same ∙ sym (order.folders where'.index x where'.there)) }
      back f (further need s has stands more) =
          let (x, where', same) = key_needed b.project order v need has in
          let (kept, here, ground, its) = good_record where'.index x where'.there (need_good where'.index where'.among) in
          let is : s ≡ kept = one s kept (sym stands ∙ ap At same ∙ here) in
          record { index = where'.index; needed = where'.among; need = x; there = where'.there; own_or_read = inr (subst (λ (l : List (List ℕ)). Contains l f) (ap (λ (r : Record). r.asked.reads) is ∙ its) more) }

-- What is asked of the unit itself afterwards.

-- where it is good: it stands, what it reaches is good, and it has its record; and it has begun
pub record IsAfter (b : BuildContext) (states states' : List (State BadUnit)) (done' : List (Option (List Directive))) (index : ℕ) (u : Planned) (w' : World) : Type 0 where
  pub stands : is_good_at (slice_get states' index) ≡ true → StandsGood b done' w' index
  pub reaches : is_good_at (slice_get states' index) ≡ true → are_good states u.reaches ≡ true
  pub recorded : IfRecords b.premise (is_good_at (slice_get states' index) ≡ true → HasRecord b w' index)
  pub begun : slice_get states' index ≡ Some Untouched → ⊥

module _ (b : BuildContext) (order : IsInOrder b.project) (states : List (State BadUnit)) (done : List (Option (List Directive))) (index : ℕ) (u : Planned) (there : unit_at b.project index ≡ Some u) (bad : is_good_at (slice_get states index) ≡ false)
    (next : Option ℕ) (w w' : World) (keeps : BuildInvariant b states done next w) (only : ChangesOnly (is_of (records_folder b.project) u.key) w w') where
  good_apart : (p : ℕ) → is_good_at (slice_get states p) ≡ true → p ≢ index
  good_apart p good e = false≢true (sym bad ∙ ap (λ q. is_good_at (slice_get states q)) (sym e) ∙ good)

  stands_still : (done' : List (Option (List Directive))) (p : ℕ) → is_good_at (slice_get states p) ≡ true → slice_get done' p ≡ slice_get done p → StandsGood b done' w' p
  stands_still done' p good same =
      let s = keeps.good p good in
      record {
        unit = s.unit;
        there = s.there;
        files = s.files;
        directives = s.directives;
        messages = s.messages;
        good = s.good;
        noted = same ∙ s.noted;
        holds = files_still b.project order index u there w w' only p s.unit s.there (good_apart p good) ∙ s.holds;
      }

  -- a good unit does not reach this one by what records name
  not_reached : (holds : HoldsRecords b states next w) (p : ℕ) (good : is_good_at (slice_get states p) ≡ true) (h : HasRecord b w p) → Reaches (records_in b w) h.unit.key u.key → ⊥
  not_reached holds p good h reaches =
      let rests = rests_by judge b.child (records_folder b.project) (records_in b w) w.files h.unit.key h.kept h.number h.kept.needed (holds.sound.each h.unit.key h.kept h.here).says
      (grounded_number (records_in b w) h.unit.key h.number h.kept h.grounded h.here) h.grounded in
      let has : Contains h.kept.asked.reads (out_of (records_folder b.project) u.key) = (rests.reads (out_of (records_folder b.project) u.key)).1 (u.key, reaches, refl) in
      let (x, where', is) = read_reached b.project order h.unit (out_of (records_folder b.project) u.key) (subst (λ (l : List (List ℕ)). Contains l (out_of (records_folder b.project) u.key)) h.reads has) in
      keys_differ b.project order where'.index index x u where'.there there
      (far_of states index h.unit.reaches bad (keeps.closed p h.unit good h.there) where'.index where'.among)
      (sym (key_by_folder b.project order x where'.index u.key where'.there is))

  has_still : (holds : HoldsRecords b states next w) (p : ℕ) → is_good_at (slice_get states p) ≡ true → HasRecord b w' p
  has_still holds p good =
      let h = holds.recorded p good in
      record {
        unit = h.unit;
        there = h.there;
        kept = h.kept;
        here = record_still b.project order index u there w w' only reading p h.unit h.there (good_apart p good) ∙ h.here;
        number = h.number;
        numbered = h.numbered;
        grounded = spares (records_in b w) (records_in b w') u.key h.unit.key h.number
            (λ l ne. unit_record (records_folder b.project) u.key w w' order.folder (order.keys index u there) only reading l ne) h.grounded
            (keys_differ b.project order p index h.unit u h.there there (good_apart p good)) (not_reached holds p good h);
        reads = h.reads;
        same = same_still b order index u there w w' only p h.unit h.there (far_of states index h.unit.reaches bad (keeps.closed p h.unit good h.there)) (good_apart p good)
            (command_in b p h.unit) h.kept (command_for b.project order b p h.unit (command_in b p h.unit) refl h.there refl) holds.sound h.same;
      }

  module _ (states' : List (State BadUnit)) (done' : List (Option (List Directive))) (next' : Option ℕ)
      (others : (p : ℕ) → p ≢ index → slice_get states' p ≡ slice_get states p) (noted : (p : ℕ) → p ≢ index → slice_get done' p ≡ slice_get done p) (long : length done' ≡ length states')
      (this : IsAfter b states states' done' index u w') where
    was_good : (p : ℕ) → p ≢ index → is_good_at (slice_get states' p) ≡ true → is_good_at (slice_get states p) ≡ true
    was_good p apart good = sym (ap is_good_at (others p apart)) ∙ good

    still_good : (indices : List ℕ) → are_good states indices ≡ true → are_good states' indices ≡ true
    still_good indices good = all_of (λ p. is_good_at (slice_get states' p)) indices
        (λ p has. let it = all_at (λ q. is_good_at (slice_get states q)) indices p good has in ap is_good_at (others p (good_apart p it)) ∙ it)

    holds_over : (premise : Premise) → HoldsBy premise b states next w → IfRecords premise (is_good_at (slice_get states' index) ≡ true → HasRecord b w' index)
        → IfRecords premise (Sound reading judge b.child (records_folder b.project) w'.files) → IfRecords premise (IsAhead (records_in b w') next') → HoldsBy premise b states' next' w'
    holds_over TrustedRecords holds its sound ahead = record {
      honest = holds.honest;
      sound = sound;
      ahead = ahead;
      recorded = λ p good. elim (cases_eq p index) [
        | inl e ↦ subst (λ q. HasRecord b w' q) (sym e) (its (subst (λ q. is_good_at (slice_get states' q) ≡ true) e good))
        | inr apart ↦ has_still holds p (was_good p apart good)
      ];
    }
    holds_over NoRecords holds its sound ahead = λ p v at untouched. elim (cases_eq p index) [
      | inl e ↦ absurd (this.begun (ap (slice_get states') (sym e) ∙ untouched))
      | inr apart ↦ record_still b.project order index u there w w' only reading p v at apart ∙ holds p v at (sym (others p apart) ∙ untouched)
    ]

    pub keeps_over : IfRecords b.premise (Sound reading judge b.child (records_folder b.project) w'.files) → IfRecords b.premise (IsAhead (records_in b w') next') → BuildInvariant b states' done' next' w'
    keeps_over sound ahead = record {
      long = long;
      sources_stay = sources_still b.project order index u there w w' only ∙ keeps.sources_stay;
      good = λ p good. elim (cases_eq p index) [
        | inl e ↦ subst (λ q. StandsGood b done' w' q) (sym e) (this.stands (subst (λ q. is_good_at (slice_get states' q) ≡ true) e good))
        | inr apart ↦ stands_still done' p (was_good p apart good) (noted p apart)
      ];
      closed = λ p v good at. elim (cases_eq p index) [
        | inl e ↦ still_good v.reaches (subst (λ (x : Planned). are_good states x.reaches ≡ true) (one u v (sym there ∙ ap (unit_at b.project) (sym e) ∙ at)) (this.reaches (subst (λ q. is_good_at (slice_get states' q) ≡ true) e good)))
        | inr apart ↦ still_good v.reaches (keeps.closed p v (was_good p apart good) at)
      ];
      records = holds_over b.premise keeps.records this.recorded sound ahead;
    }
