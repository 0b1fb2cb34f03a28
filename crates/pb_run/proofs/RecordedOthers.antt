-- A unit that has begun stays so, where only another unit's folder and record change.
use Rattle.std.proofs.Common.{◌≡◌, ◌≢◌, ◌<◌, ◌+◌, ◌==◌, ◌∙◌, ◌++◌, ℕ, Bool, true, false, cond, List, [], ◌∷◌, Option, Some, None, Contains, refl, sym, ap, subst, inl, inr, arith, slice_get, map, drop, length}
use Rattle.std.proofs.lemmas.Bool.{cases_Bool, false≢true}
use Rattle.std.proofs.lemmas.Bool.Decides.{nat_tests}
use Rattle.std.specs.FinMap as finite
use Rattle.std.specs.Prelude.{IfSome, option_map}
use Rattle.pb_command_arguments.specs.Externs.{reads_of}
use Rattle.pb_command.specs.Judge.{judge}
use Rattle.pb_directive.specs.declared.directive.Directive.{Directive}
use Rattle.pb_run_flight.specs.declared.flight.State.{State}
use Rattle.pb_run_flight.specs.Table.{is_good_at, are_good}
use Rattle.pb_place_types.specs.Children.{child_spawned, child_at, inside_out, StandsStill, SeesStill, StaysStillBut, KeepsStillOutside}
use Rattle.pb_place_types.specs.Counts.{without}
use Rattle.pb_place_types.specs.Folders.{files_in}
use Rattle.pb_place_types.specs.Paths.{stem}
use Rattle.pb_place_types.specs.World.{World, Map, Answers, ChangesOnly, from_nothing}
use Rattle.pb_place_types.specs.declared.child_in_flight.ChildInFlight.{ChildInFlight}
use Rattle.pb_place_types.specs.declared.command.Command.{Command}
use Rattle.pb_command_types.specs.Targets.{unit_at}
use Rattle.pb_record.specs.declared.record.InputName.{InputName}
use Rattle.pb_record.specs.declared.record.InputName.TheVariants.{Path, Variable}
use Rattle.pb_build_result.specs.declared.bad_unit.BadUnit.{BadUnit}
use Rattle.pb_record.specs.declared.record.Input.{Input}
use Rattle.pb_record.specs.declared.record.Needed.{Needed}
use Rattle.pb_record.specs.declared.record.Needed.TheVariants.{Copies, Numbers}
use Rattle.pb_record.specs.declared.record.Record.{Record}
use Rattle.pb_run.specs.UnitSteps.{Premise, TrustedRecords, NoRecords, BuildContext, HoldsBy, BuildInvariant, IsBegun, IsInFlight, AwaitsRecord, AwaitsBy, NothingDiffers, WaitsBy, BeginsApart, needed_keys, records_in, view_in, child_in, child_of}
use Rattle.pb_run.specs.Invariants.{IsInOrder, records_folder}
use Rattle.pb_run.specs.declared.begun.Awaited.{Awaited}
use Rattle.pb_run.specs.declared.begun.Awaited.TheVariants as awaited
use Rattle.pb_run.specs.declared.begun.Begun.{Begun}
use Rattle.pb_run.specs.declared.begun.SpawnedChild.{SpawnedChild}
use Rattle.pb_run.proofs.Recorded.{all_at, read_reached, key_needed, key_by_folder, keys_differ, command_for, sources_still, files_still, record_still, seen_still}
use Rattle.pb_run.proofs.Views.{IsFor}
use Rattle.pb_store_soundness.specs.Apart.{is_of}
use Rattle.pb_store_soundness.specs.Grounded.{RecordMap}
use Rattle.pb_store_soundness.specs.Inputs.{Judge, Agrees, path_input, input_in, contents, name_of}
use Rattle.pb_store_soundness.specs.Numbers.{NoneNames, IsBefore, after}
use Rattle.pb_store_soundness.specs.Records.{needs_of, number_of, out_of, reading}
use Rattle.pb_store_soundness.specs.Reuse.{IsSame, NeededNow, number_if}
use Rattle.pb_store_soundness.specs.Sound.{Sound, TrueBy}
use Rattle.pb_store_soundness.proofs.Becoming.{one, none_some}
use Rattle.pb_store_soundness.proofs.Flying.{unit_record}
use Rattle.pb_store_soundness.proofs.RecordPaths.{is_same}
use Rattle.pb_store.specs.Folder.{Leaves, ReadBy, itself, further, HasNeeds, TakesNumber}
use Rattle.pb_store.specs.Differences.{replayed}
use Rattle.pb_unit.specs.declared.plan.Planned.{Planned}

-- what is asked only where a build rests on records
abbrev pub IfRecords : Premise → Type 0 → Type 0
IfRecords TrustedRecords Fact = Fact
IfRecords NoRecords Fact = Unit {0}

pub if_records : (premise : Premise) (Fact : Type 0) → Fact → IfRecords premise Fact
if_records TrustedRecords Fact fact = fact
if_records NoRecords Fact fact = tt

-- what became of the record at a unit's path: none counts; it is as it was; or it is one with this number, over units that stand
pub data Left (old new : RecordMap) (key : List ℕ) (number : Option ℕ) : Type 0 where
  vanished : new key ≡ None → Left old new key number
  as_before : new key ≡ old key → Left old new key number
  put_anew : (r : Record) (n : ℕ) → new key ≡ Some r → number_of r ≡ Some n → number ≡ Some n
      → ((need : List ℕ) (m : ℕ) → Contains (needs_of r) (need, m) → (s : Record) × (old need ≡ Some s) × (number_of s ≡ Some m)) → Left old new key number

-- of a record that was dropped, or was to be
pub left_dropped : (old new : RecordMap) (key : List ℕ) → Leaves None (old key) (new key) → Left old new key None
left_dropped old new key left = elim left [
  | inl gone ↦ vanished gone
  | inr more ↦ elim more [
    | inl is ↦ as_before is
    | inr gone ↦ vanished gone
  ]
]

-- a number that was given still waits
pub names_still : (old new : RecordMap) (key : List ℕ) (given : Option ℕ) (number : ℕ) → ((l : List ℕ) → l ≢ key → new l ≡ old l) → Left old new key given → given ≢ Some number → NoneNames old number → NoneNames new number
names_still old new key given number others left apart waits other r at = elim (is_same other key) [
  | inl this ↦ by_left left (subst (λ k. new k ≡ Some r) this at)
  | inr ne ↦ waits other r (sym (others other ne) ∙ at)
]
  where
    by_left : Left old new key given → new key ≡ Some r → (number_of r ≢ Some number) × ((need : List ℕ) → Contains (needs_of r) (need, number) → ⊥)
    by_left (vanished gone) here = absurd (none_some r (sym gone ∙ here))
    by_left (as_before is) here = waits key r (sym is ∙ here)
    by_left (put_anew s n there numbered its over) here =
        let is : s ≡ r = one s r (sym there ∙ here) in (
          λ e. apart (its ∙ sym numbered ∙ ap number_of is ∙ e),
          λ need names. let (t, stands, numbered_t) = over need number (subst (λ (x : Record). Contains (needs_of x) (need, number)) (sym is) names) in (waits need t stands).0 numbered_t,
        )

-- a number below the next one stays so where the next one is taken
pub before_taken : (next next' : Option ℕ) (number : ℕ) → TakesNumber next next' → IsBefore next number → IsBefore next' number
before_taken next next' number taken before = elim taken [
  | inl same ↦ subst (λ n. IsBefore n number) (sym same) before
  | inr more ↦ let (n, is, then') = more in subst (λ m. IsBefore m number) (sym then') (below_after n (subst (λ m. IsBefore m number) is before))
]
  where
    below_after : (n : ℕ) → number < n → IsBefore (after n) number
    below_after n less = elim (cases_Bool (n == 0xffff_ffff_ffff_ffff)) [
      | inl last ↦ subst (λ b. IsBefore (cond b None (Some (n + 1))) number) (sym last) tt
      | inr more ↦ let lt : number < n + 1 = omega (arith, less) in subst (λ b. IsBefore (cond b None (Some (n + 1))) number) (sym more) lt
    ]

-- the inputs have the values that they had, where the sources are as they were
input_still : (target : List ℕ) (v w : World) (name : InputName) → from_nothing target w ≡ from_nothing target v → input_in target w name ≡ input_in target v name
input_still target v w (Path path) same = ap (λ (x : World). path_input path x.files (finite.get x.files path)) same
input_still target v w (Variable name) same = ap (λ (x : World). input_of x name) same
  where
    input_of : World → List ℕ → Input
    input_of x n = input_in [] x (Variable n)

pub agrees_still : (target : List ℕ) (inputs : List Input) (v w : World) → from_nothing target w ≡ from_nothing target v → Agrees target inputs v → Agrees target inputs w
agrees_still target [] v w same agree = tt
agrees_still target (i ∷ inputs) v w same agree = (input_still target v w (name_of i) same ∙ agree.0, agrees_still target inputs v w same agree.1)

-- what a record names lies among what its command reads
named_read : (judge : Judge) (child : Answers) (folder : List ℕ) (at : RecordMap) (files : Map) (key : List ℕ) (r : Record) (number : ℕ) (needs : List (List ℕ × ℕ)) → TrueBy judge child folder at files key r (Numbers number needs)
    → (need : List ℕ) (n : ℕ) → Contains needs (need, n) → Contains r.asked.reads (out_of folder need)
named_read judge child folder at files key r number needs says need n has = says.read need n has

copied_read : (judge : Judge) (child : Answers) (folder : List ℕ) (at : RecordMap) (files : Map) (key : List ℕ) (r : Record) (copies : List (List ℕ × List (List ℕ × List ℕ))) → TrueBy judge child folder at files key r (Copies copies)
    → (need : List ℕ) (m : List (List ℕ × List ℕ)) → Contains copies (need, m) → Contains r.asked.reads (out_of folder need)
copied_read judge child folder at files key r copies says need m has = says.read need m has

-- Another unit.

module _ (b : BuildContext) (order : IsInOrder b.project) (index : ℕ) (u : Planned) (there : unit_at b.project index ≡ Some u) (w w' : World) (only : ChangesOnly (is_of (records_folder b.project) u.key) w w') where
  abbrev Folder : List ℕ
  Folder = records_folder b.project

  abbrev At : RecordMap
  At = records_in b w

  abbrev At' : RecordMap
  At' = records_in b w'

  pub others_at : (l : List ℕ) → l ≢ u.key → At' l ≡ At l
  others_at l ne = unit_record Folder u.key w w' order.folder (order.keys index u there) only reading l ne

  module _ (other : ℕ) (v : Planned) (at : unit_at b.project other ≡ Some v) (far : (p : ℕ) → Contains v.reaches p → p ≢ index) where
    -- what a unit needs that does not reach this one stands as it stood
    need_apart : (need : List ℕ) → Contains (needed_keys b.project v) need → need ≢ u.key
    need_apart need has e =
        let (x, where', is) = key_needed b.project order v need has in
        keys_differ b.project order where'.index index x u where'.there there (far where'.index (order.needs_reached other v at where'.index where'.among)) (sym is ∙ e)

    pub needs_still : (number : ℕ) → HasNeeds At Folder (reads_of b.project v) (needed_keys b.project v) number → HasNeeds At' Folder (reads_of b.project v) (needed_keys b.project v) number
    needs_still number has = record {
      stand = λ need names. let (s, stands, more) = has.stand need names in (s, others_at need (need_apart need names) ∙ stands, more);
      reads_are = λ f. (λ read. on f ((has.reads_are f).0 read), λ by. (has.reads_are f).1 (back f by));
    }
      where
        on : (f : List ℕ) → ReadBy At Folder (needed_keys b.project v) f → ReadBy At' Folder (needed_keys b.project v) f
        on f (itself need names is) = itself need names is
        on f (further need s names stands more) = further need s names (others_at need (need_apart need names) ∙ stands) more

        back : (f : List ℕ) → ReadBy At' Folder (needed_keys b.project v) f → ReadBy At Folder (needed_keys b.project v) f
        back f (itself need names is) = itself need names is
        back f (further need s names stands more) = further need s names (sym (others_at need (need_apart need names)) ∙ stands) more

  module _ (other : ℕ) (v : Planned) (at : unit_at b.project other ≡ Some v) (far : (p : ℕ) → Contains v.reaches p → p ≢ index) (another : other ≢ index) where
    pub awaits_still : (next next' : Option ℕ) (given : Option ℕ) (number : ℕ) → TakesNumber next next' → Left At At' u.key given → given ≢ Some number → AwaitsRecord b v number next w → AwaitsRecord b v number next' w'
    awaits_still next next' given number taken left apart waits = record {
      gone = record_still b.project order index u there w w' only reading other v at another ∙ waits.gone;
      unnamed = names_still At At' u.key given number others_at left apart waits.unnamed;
      needs_stand = needs_still other v at far number waits.needs_stand;
      before = before_taken next next' number taken waits.before;
    }

    pub awaits_by : (premise : Premise) (next next' : Option ℕ) (given : Option ℕ) (number : ℕ) → TakesNumber next next' → IfRecords premise (Left At At' u.key given) → given ≢ Some number → AwaitsBy premise b v number next w → AwaitsBy premise b v number next' w'
    awaits_by TrustedRecords next next' given number taken left apart waits = awaits_still next next' given number taken left apart waits
    awaits_by NoRecords next next' given number taken left apart waits = tt

    -- what its record names is another's
    read_apart : (c : Command) → IsFor b.project v c → (need : List ℕ) → Contains c.reads (out_of Folder need) → need ≢ u.key
    read_apart c for need has e =
        let (x, where', is) = read_reached b.project order v (out_of Folder need) (subst (λ (l : List (List ℕ)). Contains l (out_of Folder need)) for.reads has) in
        keys_differ b.project order where'.index index x u where'.there there (far where'.index where'.among) (sym (key_by_folder b.project order x where'.index need where'.there is) ∙ e)

    unit_contents : (c : Command) → IsFor b.project v c → (need : List ℕ) → Contains c.reads (out_of Folder need) → contents (out_of Folder need) w'.files ≡ contents (out_of Folder need) w.files
    unit_contents c for need has =
        let (x, where', is) = read_reached b.project order v (out_of Folder need) (subst (λ (l : List (List ℕ)). Contains l (out_of Folder need)) for.reads has) in
        contents_by (out_of Folder need)
        (subst (λ f. files_in f w'.files ≡ files_in f w.files) (sym is) (files_still b.project order index u there w w' only where'.index x where'.there (far where'.index where'.among)))
      where
        contents_by : (folder : List ℕ) → files_in folder w'.files ≡ files_in folder w.files → contents folder w'.files ≡ contents folder w.files
        contents_by folder same = ap (λ (m : Map). map (λ (e : List ℕ × List ℕ). (drop (length (stem folder) + 1) e.0, e.1)) (finite.entries m)) same

    needed_still : (c : Command) → IsFor b.project v c → (r : Record) (needed : Needed) → TrueBy judge b.child Folder At w.files v.key r needed → c.reads ≡ r.asked.reads
        → NeededNow Folder At w.files needed → NeededNow Folder At' w'.files needed
    needed_still c for r (Copies copies) says reads now = λ need files has.
        unit_contents c for need (subst (λ (l : List (List ℕ)). Contains l (out_of Folder need)) (sym reads) (copied_read judge b.child Folder At w.files v.key r copies says need files has)) ∙ now need files has
    needed_still c for r (Numbers number needs) says reads now = λ need n has.
        ap number_if (others_at need (read_apart c for need (subst (λ (l : List (List ℕ)). Contains l (out_of Folder need)) (sym reads) (named_read judge b.child Folder At w.files v.key r number needs says need n has))))
        ∙ now need n has

    pub same_still : (c : Command) (r : Record) → IsFor b.project v c → Sound reading judge b.child Folder w.files → IsSame reading Folder v.key c w r → IsSame reading Folder v.key c w' r
    same_still c r for sound is = record {
      stands = record_still b.project order index u there w w' only reading other v at another ∙ is.stands;
      asked = is.asked;
      inputs = agrees_still c.target r.inputs w w' (subst (λ t. from_nothing t w' ≡ from_nothing t w) (sym for.target) (sources_still b.project order index u there w w' only)) is.inputs;
      needed = needed_still c for r r.needed (sound.each v.key r is.stands).says (sym (ap (λ (d : Command). d.reads) is.asked)) is.needed;
    }

    pub unchanged_by : (premise : Premise) (states : List (State BadUnit)) (next : Option ℕ) (c : Command) → IsFor b.project v c → HoldsBy premise b states next w → NothingDiffers premise b v c w → NothingDiffers premise b v c w'
    unchanged_by TrustedRecords states next c for holds (r, is) = (r, same_still c r for holds.sound is)
    unchanged_by NoRecords states next c for holds is = is

    -- its child sees what it saw, and its folder holds what it held
    flight_still : (c : Command) (t : ℕ) (flying : List ChildInFlight) (spawned : World) → IsFor b.project v c → child_at t flying ≡ Some (child_spawned (b.child c) c spawned t)
        → (x y : World) → ChangesOnly (is_of Folder u.key) x y → StandsStill t flying x y
    flight_still c t flying spawned for flies x y changes =
        subst (λ (o : Option ChildInFlight). IfSome o (λ s. SeesStill s x y)) (sym flies) (
          seen_still b.project order index u there x y changes v c for far,
          subst (λ (o : Option (List ℕ)). inside_out o y.files ≡ inside_out o x.files) (sym for.out) (files_still b.project order index u there x y changes other v at another),
        )

    pub in_flight_still : (c : Command) (view : World) (t : ℕ) (flying flying' : List ChildInFlight) (still still' : ℕ → Type 0) → IsFor b.project v c
        → ((its : ChildInFlight) → child_at t flying ≡ Some its → child_at t flying' ≡ Some its)
        → (((x y : World) → ChangesOnly (is_of Folder u.key) x y → StandsStill t flying x y) → still t → still' t)
        → IsInFlight b.child c view t flying still → IsInFlight b.child c view t flying' still'
    in_flight_still c view t flying flying' still still' for flies_on stands_on is = record {
      spawned = is.spawned;
      flies = flies_on (child_spawned (b.child c) c is.spawned t) is.flies;
      sees = is.sees;
      emptied = is.emptied;
      stands = stands_on (flight_still c t flying is.spawned for is.flies) is.stands;
    }

    pub waits_still : (c : Command) (view : World) (by : Awaited) (states : List (State BadUnit)) (next next' given : Option ℕ) (flying flying' : List ChildInFlight) (still still' : ℕ → Type 0)
        → IsFor b.project v c → HoldsBy b.premise b states next w → TakesNumber next next' → IfRecords b.premise (Left At At' u.key given)
        → ((theirs : SpawnedChild) → child_in by ≡ Some theirs → given ≢ Some theirs.number)
        → ((theirs : SpawnedChild) → child_in by ≡ Some theirs → (its : ChildInFlight) → child_at theirs.ticket flying ≡ Some its → child_at theirs.ticket flying' ≡ Some its)
        → ((theirs : SpawnedChild) → child_in by ≡ Some theirs → ((x y : World) → ChangesOnly (is_of Folder u.key) x y → StandsStill theirs.ticket flying x y) → still theirs.ticket → still' theirs.ticket)
        → WaitsBy b v c view by next w flying still → WaitsBy b v c view by next' w' flying' still'
    waits_still c view (awaited.Record again) states next next' given flying flying' still still' for holds taken left numbers flies_on stands_on (same, gives) = (
      unchanged_by b.premise states next c for holds same,
      ap (option_map replayed) (record_still b.project order index u there w w' only reading other v at another) ∙ gives,
    )
    waits_still c view (awaited.Child theirs) states next next' given flying flying' still still' for holds taken left numbers flies_on stands_on (in_flight, awaits) = (
      in_flight_still c view theirs.ticket flying flying' still still' for (flies_on theirs refl) (stands_on theirs refl) in_flight,
      awaits_by b.premise next next' given theirs.number taken left (numbers theirs refl) awaits,
    )

-- a unit with a child waits for its end
pub waits_child : (b : BuildContext) (u : Planned) (c : Command) (view : World) (by : Awaited) (launched : SpawnedChild) (next : Option ℕ) (w : World) (flying : List ChildInFlight) (still : ℕ → Type 0) → child_in by ≡ Some launched
    → WaitsBy b u c view by next w flying still → WaitsBy b u c view (awaited.Child launched) next w flying still
waits_child b u c view (awaited.Child l) launched next w flying still is waits = subst (λ (x : SpawnedChild). WaitsBy b u c view (awaited.Child x) next w flying still) (one l launched is) waits
waits_child b u c view (awaited.Record again) launched next w flying still is waits = absurd (none_some launched is)

-- a good unit is not this one, which is not good
pub far_of : (states : List (State BadUnit)) (index : ℕ) (indices : List ℕ) → is_good_at (slice_get states index) ≡ false → are_good states indices ≡ true → (p : ℕ) → Contains indices p → p ≢ index
far_of states index indices bad good p has e = false≢true (sym bad ∙ ap (λ q. is_good_at (slice_get states q)) (sym e) ∙ all_at (λ q. is_good_at (slice_get states q)) indices p good has)

-- another unit that has begun stays so
pub stays_begun : (b : BuildContext) (order : IsInOrder b.project) (states : List (State BadUnit)) (done : List (Option (List Directive))) (index : ℕ) (u : Planned) (launched : Option SpawnedChild) (other : ℕ) (its : Begun)
    (next next' given : Option ℕ) (w w' : World) (flying flying' : List ChildInFlight) (still still' : ℕ → Type 0)
    → unit_at b.project index ≡ Some u → is_good_at (slice_get states index) ≡ false → BuildInvariant b states done next w
    → BeginsApart b states index launched other its next w flying still
    → ChangesOnly (is_of (records_folder b.project) u.key) w w' → TakesNumber next next' → IfRecords b.premise (Left (records_in b w) (records_in b w') u.key given)
    → ((theirs : SpawnedChild) → child_of its ≡ Some theirs → given ≢ Some theirs.number)
    → ((theirs : SpawnedChild) → child_of its ≡ Some theirs → (c : ChildInFlight) → child_at theirs.ticket flying ≡ Some c → child_at theirs.ticket flying' ≡ Some c)
    → ((theirs : SpawnedChild) → child_of its ≡ Some theirs → ((x y : World) → ChangesOnly (is_of (records_folder b.project) u.key) x y → StandsStill theirs.ticket flying x y) → still theirs.ticket → still' theirs.ticket)
    → IsBegun b other its next' w' flying' still'
stays_begun b order states done index u launched other its next next' given w w' flying flying' still still' there bad keeps apart only taken left numbers flies_on stands_on =
    let is = apart.begun_so in
    let v_same : apart.unit ≡ is.unit = one apart.unit is.unit (sym apart.there ∙ is.there) in
    let far = far_of states index is.unit.reaches bad (subst (λ (x : Planned). are_good states x.reaches ≡ true) v_same apart.reaches) in
    record {
      unit = is.unit;
      there = is.there;
      command = is.command;
      waits = waits_still b order index u there w w' only other is.unit is.there far apart.another its.command (view_in b other is.unit) its.awaited states next next' given flying flying' still still'
          (command_for b.project order b other is.unit its.command refl is.there is.command) keeps.records taken left numbers flies_on stands_on is.waits;
    }

-- a child flies on where another is spawned, and where another has ended
pub flies_beside : (t : ℕ) (flying : List ChildInFlight) (more : List ChildInFlight) (c : ChildInFlight) → child_at t flying ≡ Some c → child_at t (flying ++ more) ≡ Some c
flies_beside t [] more c at = absurd (none_some c at)
flies_beside t (f ∷ flying) more c at = elim (cases_Bool (f.ticket == t)) [
  | inl its ↦ ap (λ x. cond x (Some f) (child_at t (flying ++ more))) its ∙ sym (ap (λ x. cond x (Some f) (child_at t flying)) its) ∙ at
  | inr not_its ↦ ap (λ x. cond x (Some f) (child_at t (flying ++ more))) not_its ∙ flies_beside t flying more c (sym (ap (λ x. cond x (Some f) (child_at t flying)) not_its) ∙ at)
]

pub flies_without : (t ended : ℕ) (flying : List ChildInFlight) → t ≢ ended → child_at t (without ended flying) ≡ child_at t flying
flies_without t ended [] apart = refl
flies_without t ended (f ∷ flying) apart = elim (cases_Bool (f.ticket == ended)) [
  | inl is ↦ ap (λ x. child_at t (cond x flying (f ∷ without ended flying))) is ∙ sym (ap (λ x. cond x (Some f) (child_at t flying)) (other f.ticket is))
  | inr not_is ↦ ap (λ x. child_at t (cond x flying (f ∷ without ended flying))) not_is ∙ ap (λ o. cond (f.ticket == t) (Some f) o) (flies_without t ended flying apart)
]
  where
    other : (n : ℕ) → n == ended ≡ true → n == t ≡ false
    other n is = elim (cases_Bool (n == t)) [
      | inl its ↦ absurd (apart (let a : n ≡ ended = grind (arith, nat_tests) in let c : n ≡ t = grind (arith, nat_tests) in sym c ∙ a))
      | inr not_its ↦ not_its
    ]

-- what stood still for a child over the end of another and a change of that other's paths still does
pub still_over : (inside : List ℕ → Bool) (t ended : ℕ) (flying : List ChildInFlight) (old mid : World) (before between later : ℕ → Type 0) → t ≢ ended → ChangesOnly inside old mid
    → StaysStillBut ended flying old mid before between → KeepsStillOutside inside (without ended flying) between later
    → ((x y : World) → ChangesOnly inside x y → StandsStill t flying x y) → before t → later t
still_over inside t ended flying old mid before between later apart changes landed on stands is =
    on t (λ x y c. subst (λ (o : Option ChildInFlight). IfSome o (λ s. SeesStill s x y)) (sym (flies_without t ended flying apart)) (stands x y c)) (landed t apart (stands old mid changes) is)
