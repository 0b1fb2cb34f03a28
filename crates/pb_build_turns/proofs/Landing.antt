-- What has happened, where the child of a unit in flight is dropped.
use Rattle.std.proofs.Common.{◌≡◌, ◌≢◌, ◌∙◌, inl, inr, true, false, List, ℕ, Option, Some, None, refl, sym, ap, subst, slice_get}
use Rattle.std.specs.FinMap as finite
use Rattle.std.specs.List.{AllByRecursion, remove}
use Rattle.std.proofs.lemmas.Bool.{cases_eq}
use Rattle.std.specs.Prelude.{IfSome}
use Rattle.pb_directive.specs.declared.directive.Directive.{Directive}
use Rattle.pb_run_flight.specs.declared.flight.State.{State}
use Rattle.pb_run_flight.specs.Events.{Event, IsLawful}
use Rattle.pb_run_flight.specs.Table.{is_good_at}
use Rattle.pb_run_flight.proofs.Lists.{injective}
use Rattle.pb_place_types.specs.Children.{child_at}
use Rattle.pb_place_types.specs.Counts.{Counts, counted_finish, landed}
use Rattle.pb_place_types.specs.Paths.{is_at_or_below}
use Rattle.pb_place_types.specs.World.{World, Answers, ChangesOnly}
use Rattle.pb_place_types.specs.declared.child_in_flight.ChildInFlight.{ChildInFlight}
use Rattle.pb_place_types.specs.declared.command.Command.{Command}
use Rattle.pb_place_types.specs.declared.command.Ended.{Ended}
use Rattle.pb_place_types.specs.declared.place.StartFault.{StartFault}
use Rattle.pb_place_types.specs.declared.place.StartFault.TheVariants as start
use Rattle.pb_command_types.specs.Targets.{unit_at}
use Rattle.pb_build_result.specs.declared.bad_unit.BadUnit.{BadUnit}
use Rattle.pb_build_result.specs.declared.fault.BuildFault.{BuildFault}
use Rattle.pb_command_types.specs.declared.project.Project.{Project}
use Rattle.pb_command_types.specs.declared.project.Setup.{Setup}
use Rattle.pb_run.specs.Steps.{Drops, LandsBy}
use Rattle.pb_run.specs.UnitSteps.{BuildContext, BuildInvariant, IsBegun, CanAnswer, BeginsApart, WritesTo, child_of}
use Rattle.pb_run.specs.Invariants.{IsInOrder, records_folder}
use Rattle.pb_run.specs.declared.begun.Begun.{Begun as unit_begun}
use Rattle.pb_run.specs.declared.begun.SpawnedChild.{SpawnedChild}
use Rattle.pb_run.proofs.Spawning.{launched_gone, out_within, widen}
use Rattle.pb_store_soundness.specs.Apart.{is_of}
use Rattle.pb_store_soundness.specs.Records.{out_of, reading}
use Rattle.pb_build_turns.specs.Ends.{StaysTold}
use Rattle.pb_build_turns.specs.Executor.{needs_of, IsConsistent, IsOfPlan}
use Rattle.pb_build_turns.specs.Rows.{Reasons, is_started}
use Rattle.pb_build_turns.specs.History.{states_in, AllAnswerAnew, AllBegan, AllLeaveRecords, Changes, FliesBeside, FliesIn, HistoryHolds, HasNoRecord, CameAfter, ChangesInFlight, HadDiffered}
use Rattle.pb_build_turns.specs.declared.executor.RunningUnit.{RunningUnit}
use Rattle.pb_build_turns.specs.declared.executor.UnitExecutor.{UnitExecutor}
use Rattle.pb_build_turns.proofs.Anew.{gave_on}
use Rattle.pb_build_turns.proofs.Answered as answered
use Rattle.pb_build_turns.proofs.Changing.{its_writes, changes_less}
use Rattle.pb_build_turns.proofs.Happening.{none_of}
use Rattle.pb_build_turns.proofs.Leaving.{all_left_on}
use Rattle.pb_build_turns.proofs.Lists.{all_get}
use Rattle.pb_build_turns.proofs.Manning.{flying_of}
use Rattle.pb_build_turns.proofs.Numbering.{some_or_none}
use Rattle.pb_build_turns.proofs.Reaching.{not_of_two}
use Rattle.pb_build_turns.proofs.Staying.{begun_apart, dropped_beside, none_dropped, start_beside}
use Rattle.pb_build_turns.proofs.Unkept.{none_still}
use Rattle.pb_unit.specs.declared.plan.Planned.{Planned}
use Rattle.std.proofs.Common.{Result, Ok, Err}

starts_of : (ticket : ℕ) (result : Result Ended StartFault) (old : Counts) → (counted_finish ticket result old).starts ≡ (landed ticket old).starts
starts_of ticket (Ok x) old = refl
starts_of ticket (Err start.OutOfMemory) old = refl
starts_of ticket (Err start.CannotStart) old = refl
starts_of ticket (Err start.Died) old = refl
starts_of ticket (Err start.Capture) old = refl

-- a child that was dropped has landed
pub drops_land : (o : Option SpawnedChild) (old new : Counts) → Drops o old new → LandsBy o old.starts new.starts
drops_land None old new same = ap (λ (c : Counts). c.starts) same
drops_land (Some l) old new (result, is, fault) = ap (λ (c : Counts). c.starts) is ∙ starts_of l.ticket result old

pub happened_dropped : (b : BuildContext) (c : UnitExecutor) (counts : Counts) (consistent : IsConsistent c counts) (project : b.project ≡ c.project) (es : List (Event BadUnit)) (w w' : World) (still : ℕ → Type 0) (flying' : List ChildInFlight) (still' : ℕ → Type 0)
    (index : ℕ) (a : RunningUnit) (at : slice_get c.running.items index ≡ Some a) (running' : List RunningUnit) (is : running' ≡ remove c.running.items index) (h : HistoryHolds b c.done.items c.running.items c.store.next es w counts.starts.flying still)
    → ((index : ℕ) (unit : Planned) (next : Option ℕ) → IsInOrder b.project → unit_at b.project index ≡ Some unit → CanAnswer b (states_in b.project es) c.done.items index unit a.begun next w counts.starts.flying still → BuildInvariant b (states_in b.project es) c.done.items next w')
    → ((states : List (State BadUnit)) (done : List (Option (List Directive))) (index : ℕ) (unit : Planned) (next : Option ℕ) (other : ℕ) (its : unit_begun) → IsInOrder b.project → unit_at b.project index ≡ Some unit → CanAnswer b states done index unit a.begun next w counts.starts.flying still
    → BeginsApart b states index (child_of a.begun) other its next w counts.starts.flying still → IsBegun b other its next w' flying' still')
    → HistoryHolds b c.done.items running' c.store.next es w' flying' still'
happened_dropped b c counts consistent project es w w' still flying' still' index a at running' is h keeps others =
    let of_plan : IsOfPlan c.project a = all_get (IsOfPlan c.project) c.running.items index a consistent.units at in
    let there : unit_at b.project a.unit ≡ Some of_plan.unit = ap (λ (p : Project). unit_at p a.unit) project ∙ of_plan.there in
    let order : IsInOrder b.project = subst IsInOrder (sym project) consistent.order in
    let can : CanAnswer b (states_in b.project es) c.done.items a.unit of_plan.unit a.begun c.store.next w counts.starts.flying still =
    answered.can_answer b c.done.items c.running.items c.store.next c.store.next es w w' counts.starts.flying flying' still still' h index a at of_plan.unit there in
    subst (λ (items : List RunningUnit). HistoryHolds b c.done.items items c.store.next es w' flying' still') (sym is)
    (answered.happened_less b c.done.items c.running.items c.store.next c.store.next es w w' counts.starts.flying flying' still still' h index a at of_plan.unit there
    consistent.units_apart consistent.tickets_apart consistent.numbers_apart (λ other its apart. others (states_in b.project es) c.done.items a.unit of_plan.unit c.store.next other its order there can apart)
    (keeps a.unit of_plan.unit c.store.next order there can))

pub changes_dropped : (c : UnitExecutor) (counts : Counts) (consistent : IsConsistent c counts) (first : World) (es : List (Event BadUnit)) (w w' : World) (flying' : List ChildInFlight) (index : ℕ) (a : RunningUnit) (at : slice_get c.running.items index ≡ Some a)
    (running' : List RunningUnit) (is : running' ≡ remove c.running.items index) (old : Changes c.project first c.running.items es w counts.starts.flying)
    → ((out : List ℕ) → WritesTo out (child_of a.begun) counts.starts.flying → ChangesOnly (is_at_or_below out) w w')
    → ((ticket : ℕ) (its : ChildInFlight) → IfSome (child_of a.begun) (λ l. ticket ≢ l.ticket) → child_at ticket counts.starts.flying ≡ Some its → child_at ticket flying' ≡ Some its)
    → Changes c.project first running' es w' flying'
changes_dropped c counts consistent first es w w' flying' index a at running' is old only stay =
    let of_plan : IsOfPlan c.project a = all_get (IsOfPlan c.project) c.running.items index a consistent.units at in
    let flies = λ (j : ℕ) (y : RunningUnit) (at_j : slice_get c.running.items j ≡ Some y). flying_of c counts j y consistent at_j in
    let writes : WritesTo of_plan.unit.out (child_of a.begun) counts.starts.flying = its_writes c.project consistent.order first c.running.items es w w' counts.starts.flying flying' old flies index a at of_plan.unit of_plan.there in
    changes_less c.project consistent.order first c.running.items es w w' counts.starts.flying flying' old flies index a at of_plan.unit of_plan.there consistent.units_apart consistent.tickets_apart
    (widen (is_at_or_below (out_of (records_folder c.project) of_plan.unit.key)) (is_of (records_folder c.project) of_plan.unit.key) w w' (out_within (records_folder c.project) of_plan.unit.key)
    (subst (λ o. ChangesOnly (is_at_or_below o) w w') (consistent.order.folders a.unit of_plan.unit of_plan.there) (only of_plan.unit.out writes))) stay running' is

-- where a unit had no record it has none
pub unrecorded_dropped : (c : UnitExecutor) (counts : Counts) (consistent : IsConsistent c counts) (first : World) (es : List (Event BadUnit)) (w w' : World) (index : ℕ) (a : RunningUnit) (at : slice_get c.running.items index ≡ Some a) (old : Changes c.project first c.running.items es w counts.starts.flying)
    → ((out : List ℕ) → WritesTo out (child_of a.begun) counts.starts.flying → ChangesOnly (is_at_or_below out) w w') → (unit_index : ℕ) (v : Planned) → unit_at c.project unit_index ≡ Some v → HasNoRecord c.project v w → HasNoRecord c.project v w'
unrecorded_dropped c counts consistent first es w w' index a at old only unit_index v there none =
    let of_plan : IsOfPlan c.project a = all_get (IsOfPlan c.project) c.running.items index a consistent.units at in
    let so : FliesIn c.project es w counts.starts.flying a = all_get (FliesIn c.project es w counts.starts.flying) c.running.items index a old.flies at in
    let inside : ChangesOnly (is_at_or_below of_plan.unit.out) w w' = only of_plan.unit.out (so.writes of_plan.unit of_plan.there) in
    elim (cases_eq a.unit unit_index) [
      | inl same ↦ subst (λ (x : Planned). HasNoRecord c.project x w') (injective (sym of_plan.there ∙ ap (unit_at c.project) same ∙ there))
          (launched_gone reading (records_folder c.project) of_plan.unit.key of_plan.unit.out w w' (consistent.order.keys a.unit of_plan.unit of_plan.there) (consistent.order.folders a.unit of_plan.unit of_plan.there) inside
          (subst (λ (x : Planned). HasNoRecord c.project x w) (sym (injective (sym of_plan.there ∙ ap (unit_at c.project) same ∙ there))) none))
      | inr ne ↦ none_still c.project consistent.order es w w' a.unit of_plan.unit of_plan.there
          (widen (is_at_or_below (out_of (records_folder c.project) of_plan.unit.key)) (is_of (records_folder c.project) of_plan.unit.key) w w' (out_within (records_folder c.project) of_plan.unit.key)
          (subst (λ o. ChangesOnly (is_at_or_below o) w w') (consistent.order.folders a.unit of_plan.unit of_plan.there) inside)) unit_index v there (λ e. ne (sym e)) none
    ]

-- why units have begun stays so

only_its : (c : UnitExecutor) (counts : Counts) (consistent : IsConsistent c counts) (es : List (Event BadUnit)) (w w' : World) (a : RunningUnit) (u : Planned) → unit_at c.project a.unit ≡ Some u → FliesIn c.project es w counts.starts.flying a
    → ((out : List ℕ) → WritesTo out (child_of a.begun) counts.starts.flying → ChangesOnly (is_at_or_below out) w w') → ChangesOnly (is_of (records_folder c.project) u.key) w w'
only_its c counts consistent es w w' a u there so only =
    widen (is_at_or_below (out_of (records_folder c.project) u.key)) (is_of (records_folder c.project) u.key) w w' (out_within (records_folder c.project) u.key)
    (subst (λ o. ChangesOnly (is_at_or_below o) w w') (consistent.order.folders a.unit u there) (only u.out (so.writes u there)))

pub began_dropped : (c : UnitExecutor) (counts : Counts) (consistent : IsConsistent c counts) (sources : World) (command : ℕ → Planned → Command) (fault : BuildFault) (es before : List (Event BadUnit)) (reasons : Reasons) (first w w' : World)
    (index : ℕ) (a : RunningUnit) (at : slice_get c.running.items index ≡ Some a) (lawful : IsLawful (needs_of c.project) es) (came : CameAfter c.project fault before es) (old : Changes c.project first c.running.items es w counts.starts.flying)
    → ((out : List ℕ) → WritesTo out (child_of a.begun) counts.starts.flying → ChangesOnly (is_at_or_below out) w w') → AllBegan c.project sources command before reasons first w → AllBegan c.project sources command before reasons first w'
began_dropped c counts consistent sources command fault es before reasons first w w' index a at lawful came old only began =
    let of_plan : IsOfPlan c.project a = all_get (IsOfPlan c.project) c.running.items index a consistent.units at in
    let so : FliesIn c.project es w counts.starts.flying a = all_get (FliesIn c.project es w counts.starts.flying) c.running.items index a old.flies at in
    dropped_beside c.project sources command consistent.order fault before es reasons first w w' a.unit of_plan.unit of_plan.there lawful came so.state (child_of a.begun) so.started
    (only_its c counts consistent es w w' a of_plan.unit of_plan.there so only) (λ none. none_dropped (child_of a.begun) counts.starts.flying w w' none only) began

pub started_dropped : (c : UnitExecutor) (counts : Counts) (consistent : IsConsistent c counts) (sources : World) (command : ℕ → Planned → Command) (fault : BuildFault) (es before : List (Event BadUnit)) (first w w' : World)
    (index : ℕ) (a : RunningUnit) (at : slice_get c.running.items index ≡ Some a) (old : Changes c.project first c.running.items es w counts.starts.flying)
    → ((out : List ℕ) → WritesTo out (child_of a.begun) counts.starts.flying → ChangesOnly (is_at_or_below out) w w')
    → HadDiffered c.project sources command fault before es first w → HadDiffered c.project sources command fault before es first w'
started_dropped c counts consistent sources command fault es before first w w' index a at old only started =
    let of_plan : IsOfPlan c.project a = all_get (IsOfPlan c.project) c.running.items index a consistent.units at in
    let so : FliesIn c.project es w counts.starts.flying a = all_get (FliesIn c.project es w counts.starts.flying) c.running.items index a old.flies at in
    start_beside c.project sources command consistent.order fault before es first w w' a.unit of_plan.unit of_plan.there so.state (only_its c counts consistent es w w' a of_plan.unit of_plan.there so only) started

-- and so does what those with a child have answered
pub anew_dropped : (c : UnitExecutor) (counts : Counts) (consistent : IsConsistent c counts) (child : Answers) (setup : Setup) (done : List (Option (List Directive))) (es : List (Event BadUnit)) (first w w' : World)
    (index : ℕ) (a : RunningUnit) (at : slice_get c.running.items index ≡ Some a) (lawful : IsLawful (needs_of c.project) es) (old : Changes c.project first c.running.items es w counts.starts.flying)
    → ((out : List ℕ) → WritesTo out (child_of a.begun) counts.starts.flying → ChangesOnly (is_at_or_below out) w w') → AllAnswerAnew child setup c.project es done w → AllAnswerAnew child setup c.project es done w'
anew_dropped c counts consistent child setup done es first w w' index a at lawful old only gave =
    let of_plan : IsOfPlan c.project a = all_get (IsOfPlan c.project) c.running.items index a consistent.units at in
    let so : FliesIn c.project es w counts.starts.flying a = all_get (FliesIn c.project es w counts.starts.flying) c.running.items index a old.flies at in
    gave_on c.project consistent.order es lawful a.unit of_plan.unit of_plan.there (ap is_good_at so.state) setup child w w' (only_its c counts consistent es w w' a of_plan.unit of_plan.there so only) (λ b is. begun_apart b (sym so.state ∙ is)) done gave

-- and which records those have left that have answered
pub left_dropped : (c : UnitExecutor) (counts : Counts) (consistent : IsConsistent c counts) (child : Answers) (setup : Setup) (done : List (Option (List Directive))) (es : List (Event BadUnit)) (next : Option ℕ) (first w w' : World)
    (index : ℕ) (a : RunningUnit) (at : slice_get c.running.items index ≡ Some a) (lawful : IsLawful (needs_of c.project) es) (old : Changes c.project first c.running.items es w counts.starts.flying)
    → ((out : List ℕ) → WritesTo out (child_of a.begun) counts.starts.flying → ChangesOnly (is_at_or_below out) w w') → AllLeaveRecords child setup c.project es done next first w → AllLeaveRecords child setup c.project es done next first w'
left_dropped c counts consistent child setup done es next first w w' index a at lawful old only gave =
    let of_plan : IsOfPlan c.project a = all_get (IsOfPlan c.project) c.running.items index a consistent.units at in
    let so : FliesIn c.project es w counts.starts.flying a = all_get (FliesIn c.project es w counts.starts.flying) c.running.items index a old.flies at in
    all_left_on c.project consistent.order es lawful a.unit of_plan.unit of_plan.there (ap is_good_at so.state) setup child w w' (only_its c counts consistent es w w' a of_plan.unit of_plan.there so only) (λ b is. begun_apart b (sym so.state ∙ is)) done next first gave

-- of files only those in its folder change, where it has a child, and it is not the one whose answer was taken
pub alone_dropped : (c : UnitExecutor) (counts : Counts) (consistent : IsConsistent c counts) (first : World) (es before : List (Event BadUnit)) (asked : Option ℕ) (w w' : World) (index : ℕ) (a : RunningUnit) (at : slice_get c.running.items index ≡ Some a)
    (old : Changes c.project first c.running.items es w counts.starts.flying) (beside : AllByRecursion (FliesBeside c.project before asked) c.running.items)
    → ((out : List ℕ) → WritesTo out (child_of a.begun) counts.starts.flying → ChangesOnly (is_at_or_below out) w w') → ChangesInFlight c.project before asked w w'
alone_dropped c counts consistent first es before asked w w' index a at old beside only =
    let of_plan : IsOfPlan c.project a = all_get (IsOfPlan c.project) c.running.items index a consistent.units at in
    let so : FliesIn c.project es w counts.starts.flying a = all_get (FliesIn c.project es w counts.starts.flying) c.running.items index a old.flies at in
    let own : FliesBeside c.project before asked a = all_get (FliesBeside c.project before asked) c.running.items index a beside at in
    record {
      variables = (only_its c counts consistent es w w' a of_plan.unit of_plan.there so only).variables;
      files = λ q apart. elim (some_or_none (child_of a.begun)) [
        | inl some ↦ (only of_plan.unit.out (so.writes of_plan.unit of_plan.there)).files q (apart a.unit of_plan.unit own.state own.other (own.started ∙ some) of_plan.there)
        | inr none ↦ none_dropped (child_of a.begun) counts.starts.flying w w' none only q
      ];
    }

pub in_flight_twice : (project : Project) (es : List (Event BadUnit)) (asked : Option ℕ) (u v w : World) → ChangesInFlight project es asked u v → ChangesInFlight project es asked v w → ChangesInFlight project es asked u w
in_flight_twice project es asked u v w first then' = record {
  variables = then'.variables ∙ first.variables;
  files = λ q apart. then'.files q apart ∙ first.files q apart;
}

-- nothing changes of one for which no child was started
pub childless_dropped : (c : UnitExecutor) (counts : Counts) (consistent : IsConsistent c counts) (first : World) (es : List (Event BadUnit)) (w w' : World) (index : ℕ) (a : RunningUnit) (at : slice_get c.running.items index ≡ Some a) (old : Changes c.project first c.running.items es w counts.starts.flying)
    → ((out : List ℕ) → WritesTo out (child_of a.begun) counts.starts.flying → ChangesOnly (is_at_or_below out) w w') → (unit_index : ℕ) (v : Planned) (q : List ℕ) → unit_at c.project unit_index ≡ Some v → is_started es unit_index ≡ false → is_of (records_folder c.project) v.key q ≡ true
    → finite.get w'.files q ≡ finite.get w.files q
childless_dropped c counts consistent first es w w' index a at old only unit_index v q there started inside =
    let of_plan : IsOfPlan c.project a = all_get (IsOfPlan c.project) c.running.items index a consistent.units at in
    let so : FliesIn c.project es w counts.starts.flying a = all_get (FliesIn c.project es w counts.starts.flying) c.running.items index a old.flies at in
    elim (cases_eq a.unit unit_index) [
      | inl same ↦ none_dropped (child_of a.begun) counts.starts.flying w w' (none_of (child_of a.begun) (sym so.started ∙ ap (is_started es) same ∙ started)) only q
      | inr ne ↦
          (only_its c counts consistent es w w' a of_plan.unit of_plan.there so only).files q (not_of_two c.project consistent.order unit_index a.unit v of_plan.unit there of_plan.there (λ e. ne (sym e)) q inside)
    ]

-- all that is still so after one of them was dropped, and after the next
pub told_twice : (child : Answers) (project now : Project) (same : now ≡ project) (first : World) (es : List (Event BadUnit)) (before mid after : List RunningUnit) (u v w : World) (flying flying' : List ChildInFlight)
    → StaysTold child project first es before mid u v flying → (Changes now first mid es v flying → StaysTold child now first es mid after v w flying') → StaysTold child project first es before after u w flying'
told_twice child project now same first es before mid after u v w flying flying' one step =
    let two : StaysTold child project first es mid after v w flying' =
    subst (λ (p : Project). StaysTold child p first es mid after v w flying') same (step (subst (λ (p : Project). Changes p first mid es v flying) (sym same) one.changes)) in
    record {
      changes = two.changes;
      beside = λ came asked all. two.beside came asked (one.beside came asked all);
      alone = λ came asked all. in_flight_twice project came asked u v w (one.alone came asked all) (two.alone came asked (one.beside came asked all));
      unrecorded = λ index unit there none. two.unrecorded index unit there (one.unrecorded index unit there none);
      childless = λ index unit path there started inside. two.childless index unit path there started inside ∙ one.childless index unit path there started inside;
      began = λ sources command fault came reasons lawful after began. two.began sources command fault came reasons lawful after (one.began sources command fault came reasons lawful after began);
      started = λ sources command fault came had. two.started sources command fault came (one.started sources command fault came had);
      anew = λ setup done lawful gave. two.anew setup done lawful (one.anew setup done lawful gave);
      left = λ setup done next lawful gave. two.left setup done next lawful (one.left setup done next lawful gave);
    }

-- where none was dropped yet
pub told_first : (child : Answers) (project : Project) (first : World) (es : List (Event BadUnit)) (running : List RunningUnit) (w : World) (flying : List ChildInFlight) → Changes project first running es w flying → StaysTold child project first es running running w w flying
told_first child project first es running w flying old = record {
  changes = old;
  beside = λ came asked all. all;
  alone = λ came asked all. record { variables = refl; files = λ q apart. refl };
  unrecorded = λ index unit there none. none;
  childless = λ index unit path there started inside. refl;
  began = λ sources command fault came reasons lawful after began. began;
  started = λ sources command fault came had. had;
  anew = λ setup done lawful gave. gave;
  left = λ setup done next lawful gave. gave;
}
