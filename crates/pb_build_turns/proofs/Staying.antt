-- What units that have begun rest on stays, where another unit begins, answers or is dropped.
use Rattle.std.proofs.Common.{◌≡◌, ◌≢◌, ◌∙◌, ◌⊎◌, ◌||◌, inl, inr, Bool, true, false, List, [], ◌∷◌, ℕ, suc, Option, Some, None, refl, sym, ap, subst, arith, length, slice_get, slice_set, is_some}
use Rattle.std.proofs.lemmas.Bool.{cases_Bool, cases_eq, false≢true}
use Rattle.std.specs.FinMap as finite
use Rattle.pb_run_flight.specs.declared.flight.Answer.{Answer}
use Rattle.pb_run_flight.specs.declared.flight.State.TheVariants.{Untouched, Begun, Answered}
use Rattle.pb_run_flight.specs.Events.{Event, Began, Gave, IsLawful}
use Rattle.pb_run_flight.specs.Laws.{HasBegun}
use Rattle.pb_run_flight.specs.Table.{is_good_at}
use Rattle.pb_run_flight.proofs.Handing.{began_lawful, gave_lawful}
use Rattle.pb_run_flight.proofs.Lists.{injective, get_set_other}
use Rattle.pb_run_flight.proofs.Ready.{good_at}
use Rattle.pb_place_types.specs.Paths.{below, is_at_or_below}
use Rattle.pb_place_types.specs.World.{World, ChangesOnly}
use Rattle.pb_place_types.specs.declared.child_in_flight.ChildInFlight.{ChildInFlight}
use Rattle.pb_place_types.specs.declared.command.Command.{Command}
use Rattle.pb_place_types.specs.declared.place.StartFault.TheVariants as start
use Rattle.pb_place_types.proofs.Within.{at_itself, below_then_at, goes_below, not_below_itself}
use Rattle.pb_command_types.specs.Targets.{unit_at}
use Rattle.pb_build_result.specs.declared.bad_unit.BadUnit.{BadUnit}
use Rattle.pb_build_result.specs.declared.fault.BuildFault.{BuildFault}
use Rattle.pb_build_result.specs.declared.fault.BuildFault.TheVariants.{Plan, Toolchain, Child, Device, Sink, OutOfMemory}
use Rattle.pb_command_types.specs.declared.project.Project.{Project}
use Rattle.pb_run.specs.Steps.{is_of_start}
use Rattle.pb_run.specs.UnitSteps.{WritesTo}
use Rattle.pb_run.specs.Invariants.{IsInOrder, records_folder}
use Rattle.pb_run.specs.declared.begun.SpawnedChild.{SpawnedChild}
use Rattle.pb_store_soundness.specs.Apart.{is_of}
use Rattle.pb_store_soundness.specs.Records.{out_of, record_path, reading, records}
use Rattle.pb_store_soundness.proofs.RecordPaths.{record_same}
use Rattle.pb_store.specs.Folder.{lacks_number}
use Rattle.pb_store.specs.declared.difference.Difference.{Difference}
use Rattle.pb_build_turns.specs.Executor.{needs_of}
use Rattle.pb_build_turns.specs.Rows.{Reasons, is_started}
use Rattle.pb_build_turns.specs.History.{states_in, AllBegan, BeganFor, CameAfter, HadDiffered, events_before}
use Rattle.pb_build_turns.proofs.Happening.{before_now, before_other, none_of, started_now, started_other}
use Rattle.pb_build_turns.proofs.Reaching.{not_of_two}
use Rattle.pb_build_turns.proofs.States.{another}
use Rattle.pb_unit.specs.declared.plan.Planned.{Planned}

-- A child that is not there changes nothing.

-- a path is not below one that goes on from it
not_below_more : (q : List ℕ) → is_at_or_below (below q (0 ∷ [])) q ≡ false
not_below_more q = elim (cases_Bool (is_at_or_below (below q (0 ∷ [])) q)) [
  | inl at ↦ absurd (false≢true (sym (not_below_itself q) ∙ below_then_at q (below q (0 ∷ [])) q (goes_below q (0 ∷ []) (λ e. cc)) at))
  | inr outside ↦ outside
]

-- where no child is there to be dropped, each file stays
pub none_dropped : (o : Option SpawnedChild) (flying : List ChildInFlight) (w w' : World) → o ≡ None → ((out : List ℕ) → WritesTo out o flying → ChangesOnly (is_at_or_below out) w w') → (q : List ℕ) → finite.get w'.files q ≡ finite.get w.files q
none_dropped None flying w w' none only q = (only (below q (0 ∷ [])) tt).files q (not_below_more q)
none_dropped (Some l) flying w w' none only q = cc

-- What had answered has answered.

pub untouched_apart : (a : Answer BadUnit) → Some Untouched ≡ Some (Answered a) → ⊥
untouched_apart a e = cc

pub begun_apart : (a : Answer BadUnit) → Some Begun ≡ Some (Answered a) → ⊥
begun_apart a e = cc

-- what had answered before a unit began has answered
pub answered_on : (project : Project) (es : List (Event BadUnit)) → IsLawful (needs_of project) es → (index p : ℕ) (a : Answer BadUnit) → slice_get (states_in project (events_before es index)) p ≡ Some (Answered a) → slice_get (states_in project es) p ≡ Some (Answered a)
answered_on project [] lawful index p a at = at
answered_on project (Began unit spawned ∷ es) lawful index p a at =
    let (lawful_before, may) = began_lawful (needs_of project) _ es unit spawned lawful in
    let then' : slice_get (states_in project es) p ≡ Some (Answered a) = elim (cases_eq unit index) [
      | inl same ↦
          subst (λ (x : List (Event BadUnit)). slice_get (states_in project x) p ≡ Some (Answered a)) (before_now es unit spawned)
          (subst (λ n. slice_get (states_in project (events_before (Began unit spawned ∷ es) n)) p ≡ Some (Answered a)) (sym same) at)
      | inr ne ↦ answered_on project es lawful_before index p a (subst (λ (x : List (Event BadUnit)). slice_get (states_in project x) p ≡ Some (Answered a)) (before_other es unit index spawned ne) at)
    ] in
    get_set_other (states_in project es) unit p Begun (λ e. untouched_apart a (sym may.untouched ∙ ap (slice_get (states_in project es)) e ∙ then')) ∙ then'
answered_on project (Gave unit answer ∷ es) lawful index p a at =
    let (lawful_before, flying) = gave_lawful (needs_of project) _ es unit answer lawful in
    let then' : slice_get (states_in project es) p ≡ Some (Answered a) = answered_on project es lawful_before index p a at in
    get_set_other (states_in project es) unit p (Answered answer) (λ e. begun_apart a (sym flying ∙ ap (slice_get (states_in project es)) e ∙ then')) ∙ then'

-- A unit in flight had begun before a beginning that came after its own.

pub record FlewBefore (project : Project) (before : List (Event BadUnit)) (index : ℕ) (spawned : Bool) : Type 0 where
  pub not_good : is_good_at (slice_get (states_in project before) index) ≡ false
  pub not_answered : (a : Answer BadUnit) → slice_get (states_in project before) index ≡ Some (Answered a) → ⊥
  pub started : HasBegun (states_in project before) index → is_started before index ≡ spawned

flew_last : (project : Project) (before : List (Event BadUnit)) (unit index : ℕ) (new spawned : Bool) → slice_get (states_in project before) unit ≡ Some Untouched
    → slice_get (slice_set (states_in project before) unit Begun) index ≡ Some Begun → is_started (Began unit new ∷ before) index ≡ spawned → FlewBefore project before index spawned
flew_last project before unit index new spawned untouched state started = record {
  not_good = elim (cases_eq unit index) [
    | inl same ↦ ap is_good_at (ap (slice_get (states_in project before)) (sym same) ∙ untouched)
    | inr ne ↦ ap is_good_at (sym (get_set_other (states_in project before) unit index Begun ne) ∙ state)
  ];
  not_answered = λ a at. elim (cases_eq unit index) [
    | inl same ↦ untouched_apart a (sym untouched ∙ ap (slice_get (states_in project before)) same ∙ at)
    | inr ne ↦ begun_apart a (sym state ∙ get_set_other (states_in project before) unit index Begun ne ∙ at)
  ];
  started = λ has. sym (started_other before unit index new (another (states_in project before) unit index untouched has)) ∙ started;
}

-- these events, or those before the last beginning
abbrev pub OrBefore : List (Event BadUnit) → List (Event BadUnit) → Type 0
OrBefore before es = (es ≡ before) ⊎ ((unit : ℕ) × (spawned : Bool) × (es ≡ Began unit spawned ∷ before))

pub or_before : (project : Project) (fault : BuildFault) (before es : List (Event BadUnit)) → CameAfter project fault before es → OrBefore before es
or_before project (Plan why) before es came = inl came
or_before project Toolchain before es came = inl came
or_before project (Child key start.CannotStart) before es (unit, named, is) = inr (unit, true, is)
or_before project (Child key start.Died) before es came = inl came
or_before project (Child key start.Capture) before es came = inl came
or_before project (Child key start.OutOfMemory) before es came = inl came
or_before project (Device key fault) before es (inl same) = inl same
or_before project (Device key fault) before es (inr (unit, named, is)) = inr (unit, false, is)
or_before project Sink before es came = inl came
or_before project OutOfMemory before es came = came

flew_before : (project : Project) (before es : List (Event BadUnit)) (index : ℕ) (spawned : Bool) → IsLawful (needs_of project) es → OrBefore before es
    → slice_get (states_in project es) index ≡ Some Begun → is_started es index ≡ spawned → FlewBefore project before index spawned
flew_before project before es index spawned lawful (inl same) state started = subst (λ (x : List (Event BadUnit)). FlewBefore project x index spawned) same record {
  not_good = ap is_good_at state;
  not_answered = λ a at. begun_apart a (sym state ∙ at);
  started = λ has. started;
}
flew_before project before es index spawned lawful (inr (unit, new, is)) state started =
    let (lawful_before, may) = began_lawful (needs_of project) _ before unit new (subst (IsLawful (needs_of project)) is lawful) in
    flew_last project before unit index new spawned may.untouched (subst (λ (x : List (Event BadUnit)). slice_get (states_in project x) index ≡ Some Begun) is state)
    (subst (λ (x : List (Event BadUnit)). is_started x index ≡ spawned) is started)

-- a unit for which no child was started had begun so before
pub started_after : (project : Project) (before es : List (Event BadUnit)) → IsLawful (needs_of project) es → OrBefore before es → (index : ℕ) → slice_get (states_in project before) index ≡ Some Begun → is_started before index ≡ false → is_started es index ≡ false
started_after project before es lawful (inl same) index state started = ap (λ (x : List (Event BadUnit)). is_started x index) same ∙ started
started_after project before es lawful (inr (unit, new, is)) index state started =
    let (lawful_before, may) = began_lawful (needs_of project) _ before unit new (subst (IsLawful (needs_of project)) is lawful) in
    ap (λ (x : List (Event BadUnit)). is_started x index) is ∙ started_other before unit index new (another (states_in project before) unit index may.untouched (Begun, state, refl)) ∙ started

second : (x y : Bool) → y ≡ true → x || y ≡ true
second true y h = refl
second false y h = h

-- a unit's record stands at a path of the unit
pub record_its_own : (folder key : List ℕ) → is_of folder key (record_path folder key) ≡ true
record_its_own folder key = second (is_at_or_below (out_of folder key) (record_path folder key)) _ (at_itself (record_path folder key) (record_path folder key) refl)

longer : (x : Event BadUnit) (es : List (Event BadUnit)) → es ≡ x ∷ es → ⊥
longer x es same =
    let n : length es ≡ suc (length es) = ap length same in
    omega (arith, n)

abbrev unit_of : List (Event BadUnit) → ℕ
unit_of [] = 0
unit_of (Began unit spawned ∷ es) = unit
unit_of (Gave unit answer ∷ es) = unit

abbrev spawned_of : List (Event BadUnit) → Bool
spawned_of [] = false
spawned_of (Began unit spawned ∷ es) = spawned
spawned_of (Gave unit answer ∷ es) = false

module _ (project : Project) (sources : World) (command : ℕ → Planned → Command) where
  -- a unit that has begun without a child, and whose record had a number at first, has that record now
  pub numbered_now : (es : List (Event BadUnit)) (reasons : Reasons) (first w : World) (i : ℕ) (u : Planned) → unit_at project i ≡ Some u → BeganFor project sources command es reasons first w i → is_started es i ≡ false
      → lacks_number (records (records_folder project) first u.key) ≡ false → lacks_number (records (records_folder project) w u.key) ≡ false
  numbered_now es reasons first w i u there f unstarted numbered =
      let is : f.unit ≡ u = injective (sym f.there ∙ there) in
      let none : f.difference ≡ None = none_of f.difference (sym f.started ∙ unstarted) in
      let stays = f.kept_stays none (subst (λ (x : Planned). lacks_number (records (records_folder project) first x.key) ≡ false) (sym is) numbered) (record_path (records_folder project) f.unit.key) (record_its_own (records_folder project) f.unit.key) in
      ap lacks_number (record_same reading (records_folder project) first.files w.files u.key (subst (λ (x : Planned). finite.get w.files (record_path (records_folder project) x.key) ≡ finite.get first.files (record_path (records_folder project) x.key)) is stays)) ∙ numbered

  -- A unit could not begin, though something had differed of it.

  -- where the fault is none of a start, and no child was tried, nothing is said
  pub none_tried : (fault : BuildFault) (es : List (Event BadUnit)) (first now : World) (unit : ℕ) → is_of_start fault ≡ false → HadDiffered project sources command fault es (Began unit false ∷ es) first now
  none_tried fault es first now unit other index spawned is (inl so) = absurd (false≢true (sym other ∙ so))
  none_tried fault es first now unit other index spawned is (inr so) = absurd (false≢true (ap spawned_of is ∙ so))

  -- nor where no unit began last
  pub none_began : (fault : BuildFault) (es : List (Event BadUnit)) (first now : World) → HadDiffered project sources command fault es es first now
  none_began fault es first now index spawned is so = absurd (longer (Began index spawned) es is)

  -- it is said of the one that began last
  pub start_told : (fault : BuildFault) (es : List (Event BadUnit)) (first now : World) (unit : ℕ) (spawned : Bool) → ((is_of_start fault ≡ true) ⊎ (spawned ≡ true) → (reasons : Reasons) × BeganFor project sources command (Began unit true ∷ es) reasons first now unit)
      → HadDiffered project sources command fault es (Began unit spawned ∷ es) first now
  start_told fault es first now unit spawned told index other is so =
      subst (λ n. (reasons : Reasons) × BeganFor project sources command (Began n true ∷ es) reasons first now n) (ap unit_of is) (told (subst (λ b. (is_of_start fault ≡ true) ⊎ (b ≡ true)) (sym (ap spawned_of is)) so))

  module _ (order : IsInOrder project) where
    -- a path in a unit's folder is one of the unit
    pub inside_folder : (index : ℕ) (u : Planned) → unit_at project index ≡ Some u → (q : List ℕ) → is_at_or_below u.out q ≡ true → is_of (records_folder project) u.key q ≡ true
    inside_folder index u there q inside = ap (λ b. b || is_at_or_below (record_path (records_folder project) u.key) q) (subst (λ (out : List ℕ). is_at_or_below out q ≡ true) (order.folders index u there) inside)

    -- A unit has done something: it is none that has answered and is good, and where it has begun without a child each file of its folder stays, and where its record had a number at first too, each file.
    module _ (es : List (Event BadUnit)) (reasons : Reasons) (first w w' : World) (i : ℕ) (u : Planned) (there : unit_at project i ≡ Some u)
        (only : ChangesOnly (is_of (records_folder project) u.key) w w') (not_good : is_good_at (slice_get (states_in project es) i) ≡ false) (not_answered : (a : Answer BadUnit) → slice_get (states_in project es) i ≡ Some (Answered a) → ⊥)
        (own : HasBegun (states_in project es) i → BeganFor project sources command es reasons first w i → is_started es i ≡ false → lacks_number (records (records_folder project) first u.key) ≡ false
        → (q : List ℕ) → finite.get w'.files q ≡ finite.get w.files q)
        (own_folder : HasBegun (states_in project es) i → is_started es i ≡ false → (q : List ℕ) → is_at_or_below u.out q ≡ true → finite.get w'.files q ≡ finite.get w.files q) where
      folder_now : (index : ℕ) → HasBegun (states_in project es) index → (f : BeganFor project sources command es reasons first w index) → f.difference ≡ None → (q : List ℕ) → is_at_or_below f.unit.out q ≡ true → finite.get w'.files q ≡ finite.get w.files q
      folder_now index has f none q inside = elim (cases_eq index i) [
        | inl same ↦
            let is : f.unit ≡ u = injective (sym f.there ∙ ap (unit_at project) same ∙ there) in
            own_folder (subst (HasBegun (states_in project es)) same has) (ap (is_started es) (sym same) ∙ f.started ∙ ap (λ (o : Option Difference). is_some o) none) q
            (subst (λ (x : Planned). is_at_or_below x.out q ≡ true) is inside)
        | inr ne ↦ only.files q (not_of_two project order index i f.unit u f.there there ne q (inside_folder index f.unit f.there q inside))
      ]

      kept_now : (index : ℕ) → HasBegun (states_in project es) index → (f : BeganFor project sources command es reasons first w index) → f.difference ≡ None → lacks_number (records (records_folder project) first f.unit.key) ≡ false
          → (q : List ℕ) → is_of (records_folder project) f.unit.key q ≡ true → finite.get w'.files q ≡ finite.get w.files q
      kept_now index has f none numbered q inside = elim (cases_eq index i) [
        | inl same ↦
            let is : f.unit ≡ u = injective (sym f.there ∙ ap (unit_at project) same ∙ there) in
            own (subst (HasBegun (states_in project es)) same has) (subst (BeganFor project sources command es reasons first w) same f)
            (ap (is_started es) (sym same) ∙ f.started ∙ ap (λ (o : Option Difference). is_some o) none) (subst (λ (x : Planned). lacks_number (records (records_folder project) first x.key) ≡ false) is numbered) q
        | inr ne ↦ only.files q (not_of_two project order index i f.unit u f.there there ne q inside)
      ]

      good_other : (p : ℕ) → is_good_at (slice_get (states_in project es) p) ≡ true → p ≢ i
      good_other p good same = false≢true (sym not_good ∙ ap (λ n. is_good_at (slice_get (states_in project es) n)) (sym same) ∙ good)

      -- the others rest on the same
      began_on : AllBegan project sources command es reasons first w → AllBegan project sources command es reasons first w'
      began_on began index has = let f = began index has in record {
        unit = f.unit;
        there = f.there;
        world = f.world;
        sources_stay = f.sources_stay;
        record_stays = f.record_stays;
        only = f.only;
        reaches = f.reaches;
        reached_stay = λ p v q among at inside.
            f.reached_stay p v q among at inside ∙ sym (only.files q (not_of_two project order p i v u at there (good_other p (good_at (states_in project es) f.unit.reaches p f.reaches among)) q inside));
        answered_stay = λ p v a q then' still at inside.
            f.answered_stay p v a q then' still at inside ∙ sym (only.files q (not_of_two project order p i v u at there (λ same. not_answered a (ap (slice_get (states_in project es)) (sym same) ∙ still)) q inside));
        unrecorded = f.unrecorded;
        waiting_stay = f.waiting_stay;
        difference = f.difference;
        named = f.named;
        started = f.started;
        noted = f.noted;
        folder_stays = λ none q inside. folder_now index has f none q inside ∙ f.folder_stays none q inside;
        kept_stays = λ none numbered q inside. kept_now index has f none numbered q inside ∙ f.kept_stays none numbered q inside;
        unstarted = f.unstarted;
      }

    -- a beginning
    pub began_beside : (es : List (Event BadUnit)) (reasons : Reasons) (first w w' : World) (i : ℕ) (u : Planned) → unit_at project i ≡ Some u → slice_get (states_in project es) i ≡ Some Untouched → ChangesOnly (is_of (records_folder project) u.key) w w'
        → AllBegan project sources command es reasons first w → AllBegan project sources command es reasons first w'
    began_beside es reasons first w w' i u there untouched only =
        began_on es reasons first w w' i u there only (ap is_good_at untouched) (λ a at. untouched_apart a (sym untouched ∙ at)) (λ has f. absurd (another (states_in project es) i i untouched has refl)) (λ has. absurd (another (states_in project es) i i untouched has refl))

    -- an answer, or a fault in its place
    pub answered_beside : (es : List (Event BadUnit)) (reasons : Reasons) (first w w' : World) (i : ℕ) (u : Planned) → unit_at project i ≡ Some u → slice_get (states_in project es) i ≡ Some Begun → (o : Option SpawnedChild) → is_started es i ≡ is_some o
        → ChangesOnly (is_of (records_folder project) u.key) w w' → (o ≡ None → lacks_number (records (records_folder project) w u.key) ≡ false → w' ≡ w) → (o ≡ None → (q : List ℕ) → is_at_or_below u.out q ≡ true → finite.get w'.files q ≡ finite.get w.files q)
        → AllBegan project sources command es reasons first w → AllBegan project sources command es reasons first w'
    answered_beside es reasons first w w' i u there state o started only same folder =
        began_on es reasons first w w' i u there only (ap is_good_at state) (λ a at. begun_apart a (sym state ∙ at)) (λ has f unstarted numbered q.
        ap (λ (v : World). finite.get v.files q) (same (none_of o (sym started ∙ unstarted)) (numbered_now es reasons first w i u there f unstarted numbered)))
        (λ has unstarted. folder (none_of o (sym started ∙ unstarted)))

    -- a child dropped
    pub dropped_beside : (fault : BuildFault) (before es : List (Event BadUnit)) (reasons : Reasons) (first w w' : World) (i : ℕ) (u : Planned) → unit_at project i ≡ Some u → IsLawful (needs_of project) es → CameAfter project fault before es
        → slice_get (states_in project es) i ≡ Some Begun → (o : Option SpawnedChild) → is_started es i ≡ is_some o → ChangesOnly (is_of (records_folder project) u.key) w w' → (o ≡ None → (q : List ℕ) → finite.get w'.files q ≡ finite.get w.files q)
        → AllBegan project sources command before reasons first w → AllBegan project sources command before reasons first w'
    dropped_beside fault before es reasons first w w' i u there lawful came state o started only same =
        let flew = flew_before project before es i (is_some o) lawful (or_before project fault before es came) state started in
        began_on before reasons first w w' i u there only flew.not_good flew.not_answered (λ has f unstarted numbered. same (none_of o (sym (flew.started has) ∙ unstarted)))
        (λ has unstarted q inside. same (none_of o (sym (flew.started has) ∙ unstarted)) q)

    -- and so of one that could not begin
    pub start_beside : (fault : BuildFault) (before es : List (Event BadUnit)) (first w w' : World) (i : ℕ) (u : Planned) → unit_at project i ≡ Some u → slice_get (states_in project es) i ≡ Some Begun → ChangesOnly (is_of (records_folder project) u.key) w w'
        → HadDiffered project sources command fault before es first w → HadDiffered project sources command fault before es first w'
    start_beside fault before es first w w' i u there state only started index spawned is so =
        let (reasons, f) = started index spawned is so in
        let begun : slice_get (states_in project (Began index true ∷ before)) i ≡ Some Begun = subst (λ (x : List (Event BadUnit)). slice_get (states_in project x) i ≡ Some Begun) is state in
        let other : (p : ℕ) → is_good_at (slice_get (states_in project (Began index true ∷ before)) p) ≡ true → p ≢ i =
        λ p good same. false≢true (sym (ap is_good_at begun) ∙ ap (λ n. is_good_at (slice_get (states_in project (Began index true ∷ before)) n)) (sym same) ∙ good) in (
          reasons,
          record {
            unit = f.unit;
            there = f.there;
            world = f.world;
            sources_stay = f.sources_stay;
            record_stays = f.record_stays;
            only = f.only;
            reaches = f.reaches;
            reached_stay = λ p v q among at inside.
                f.reached_stay p v q among at inside ∙ sym (only.files q (not_of_two project order p i v u at there (other p (good_at (states_in project (Began index true ∷ before)) f.unit.reaches p f.reaches among)) q inside));
            answered_stay = λ p v a q then' still at inside.
                f.answered_stay p v a q then' still at inside
                ∙ sym (only.files q (not_of_two project order p i v u at there (λ same. begun_apart a (sym begun ∙ ap (slice_get (states_in project (Began index true ∷ before))) (sym same) ∙ still)) q inside));
            unrecorded = f.unrecorded;
            waiting_stay = f.waiting_stay;
            difference = f.difference;
            named = f.named;
            started = f.started;
            noted = f.noted;
            folder_stays = λ none q inside. absurd (false≢true (sym (f.started ∙ ap (λ (o : Option Difference). is_some o) none) ∙ started_now before index true));
            kept_stays = λ none numbered q inside. absurd (false≢true (sym (f.started ∙ ap (λ (o : Option Difference). is_some o) none) ∙ started_now before index true));
            unstarted = f.unstarted;
          },
        )
