-- Where the children in flight write, and what was changed, whatever a build rests on.
use Rattle.std.proofs.Common.{◌≡◌, ◌≢◌, ◌∙◌, ◌++◌, Bool, true, List, [], ◌∷◌, ℕ, Option, Some, None, IsSome, is_some, refl, sym, ap, subst, slice_get, slice_set}
use Rattle.std.specs.List.{AllByRecursion, remove}
use Rattle.std.specs.Prelude.{IfSome}
use Rattle.pb_run_flight.specs.declared.flight.Answer.{Answer}
use Rattle.pb_run_flight.specs.declared.flight.State.TheVariants.{Untouched, Begun, Answered}
use Rattle.pb_run_flight.specs.Events.{Event, Began, Gave}
use Rattle.pb_run_flight.specs.Laws.{HasBegun}
use Rattle.pb_run_flight.proofs.Lists.{injective, clash, get_set_same, get_set_other}
use Rattle.pb_place_types.specs.Children.{child_at, is_flying}
use Rattle.pb_place_types.specs.World.{World, ChangesOnly}
use Rattle.pb_place_types.specs.declared.child_in_flight.ChildInFlight.{ChildInFlight}
use Rattle.pb_command_types.specs.Targets.{unit_at}
use Rattle.pb_build_result.specs.declared.bad_unit.BadUnit.{BadUnit}
use Rattle.pb_command_types.specs.declared.project.Project.{Project}
use Rattle.pb_run.specs.UnitSteps.{WritesTo, child_of}
use Rattle.pb_run.specs.Invariants.{IsInOrder, records_folder}
use Rattle.pb_run.specs.declared.begun.SpawnedChild.{SpawnedChild}
use Rattle.pb_run.proofs.Writes.{flying_at}
use Rattle.pb_store_soundness.specs.Apart.{is_of}
use Rattle.pb_build_turns.specs.Executor.{AreApart, WritesOwn, indices_of, index_of_unit, tickets_of, ticket_in}
use Rattle.pb_build_turns.specs.Rows.{is_started}
use Rattle.pb_build_turns.specs.History.{states_in, Changes, FliesBeside, FliesIn, HasNoRecord, OnlyOf}
use Rattle.pb_build_turns.specs.declared.executor.RunningUnit.{RunningUnit}
use Rattle.pb_build_turns.proofs.Happening.{started_now, started_other}
use Rattle.pb_build_turns.proofs.Unkept.{bad_begun, bad_given, bad_less, none_bad, none_still}
use Rattle.pb_build_turns.proofs.Lists.{all_as, all_more, all_at_each, all_get, all_left, apart_indices, flat_apart, get_map}
use Rattle.pb_build_turns.proofs.States.{another, begun_more, begun_now}
use Rattle.pb_unit.specs.declared.plan.Planned.{Planned}

-- the child of a unit in flight, where another call was made meanwhile
pub writes_on : (out : List ℕ) (o : Option SpawnedChild) (flying flying' : List ChildInFlight) → IfSome o (λ l. is_flying l.ticket flying ≡ true)
    → ((l : SpawnedChild) → o ≡ Some l → (its : ChildInFlight) → child_at l.ticket flying ≡ Some its → child_at l.ticket flying' ≡ Some its) → WritesTo out o flying → WritesTo out o flying'
writes_on out None flying flying' flies stay writes = tt
writes_on out (Some l) flying flying' flies stay writes =
    let (f, at) = flying_at l.ticket flying flies in
    subst (λ (x : Option ChildInFlight). IfSome x (λ s. s.command.out ≡ Some out)) (at ∙ sym (stay l refl f at)) writes

-- The children of units in flight write into their units' folders.

module _ (project : Project) (running : List RunningUnit) (flying flying' : List ChildInFlight) (flies : (index : ℕ) (a : RunningUnit) → slice_get running index ≡ Some a → IfSome (child_of a.begun) (λ l. is_flying l.ticket flying ≡ true))
    (own : AllByRecursion (WritesOwn project flying) running) where
  -- also with one more
  pub owns_more : ((ticket : ℕ) (its : ChildInFlight) → child_at ticket flying ≡ Some its → child_at ticket flying' ≡ Some its) → (a : RunningUnit) (u : Planned) → unit_at project a.unit ≡ Some u → WritesTo u.out (child_of a.begun) flying'
      → (running' : List RunningUnit) → running' ≡ running ++ a ∷ [] → AllByRecursion (WritesOwn project flying') running'
  owns_more stay a u there writes running' is =
      subst (AllByRecursion (WritesOwn project flying')) (sym is)
      (all_more (WritesOwn project flying') running (a ∷ [])
      (all_at_each (WritesOwn project flying) (WritesOwn project flying') running (λ j y at_j its v at_v. writes_on v.out (child_of y.begun) flying flying' (flies j y at_j) (λ l theirs. stay l.ticket) (its v at_v)) own)
      ((λ v at_v. subst (λ (x : Planned). WritesTo x.out (child_of a.begun) flying') (injective (sym there ∙ at_v)) writes), tt))

  -- also with one less
  pub owns_less : (index : ℕ) (a : RunningUnit) → slice_get running index ≡ Some a → AreApart (tickets_of running)
      → ((ticket : ℕ) (its : ChildInFlight) → IfSome (child_of a.begun) (λ l. ticket ≢ l.ticket) → child_at ticket flying ≡ Some its → child_at ticket flying' ≡ Some its)
      → (running' : List RunningUnit) → running' ≡ remove running index → AllByRecursion (WritesOwn project flying') running'
  owns_less index a at tickets stay running' is =
      subst (AllByRecursion (WritesOwn project flying')) (sym is)
      (all_left (WritesOwn project flying) (WritesOwn project flying') running index
      (λ j y at_j ne its v at_v. writes_on v.out (child_of y.begun) flying flying' (flies j y at_j) (λ l theirs it. stay l.ticket it (other j y at_j ne l theirs (child_of a.begun) refl)) (its v at_v)) own)
    where
      other : (j : ℕ) (y : RunningUnit) → slice_get running j ≡ Some y → j ≢ index → (l : SpawnedChild) → child_of y.begun ≡ Some l → (o : Option SpawnedChild) → child_of a.begun ≡ o → IfSome o (λ k. l.ticket ≢ k.ticket)
      other j y at_j ne l theirs None ours = tt
      other j y at_j ne l theirs (Some k) ours = flat_apart (λ (x : RunningUnit). ticket_in (child_of x.begun)) running j index y a l.ticket k.ticket tickets at_j at (ap ticket_in theirs) (ap ticket_in ours) ne

-- only what is of these units was changed, also where one more has begun
only_more : (project : Project) (es : List (Event BadUnit)) (e : Event BadUnit) (first w w' : World) (unit : ℕ) (u : Planned) → unit_at project unit ≡ Some u
    → HasBegun (states_in project (e ∷ es)) unit → ((unit_index : ℕ) → HasBegun (states_in project es) unit_index → HasBegun (states_in project (e ∷ es)) unit_index) → ChangesOnly (is_of (records_folder project) u.key) w w' → OnlyOf project es first w → OnlyOf project (e ∷ es) first w'
only_more project es e first w w' unit u there now before only old = record {
  variables = only.variables ∙ old.variables;
  files = λ q outside. only.files q (outside unit u now there) ∙ old.files q (λ unit_index v has at. outside unit_index v (before unit_index has) at);
}

-- Whose answer was taken is none of those in flight.

-- where none was
pub beside_none : (project : Project) (first : World) (running : List RunningUnit) (es : List (Event BadUnit)) (w : World) (flying : List ChildInFlight) → Changes project first running es w flying → (running' : List RunningUnit) → running' ≡ running → AllByRecursion (FliesBeside project es None) running'
beside_none project first running es w flying old running' is =
    subst (AllByRecursion (FliesBeside project es None)) (sym is)
    (all_as (FliesIn project es w flying) (FliesBeside project es None) running (λ a f. record { state = f.state; started = f.started; other = λ e. clash e }) old.flies)

-- it flies no more
pub beside_asked : (project : Project) (first : World) (running : List RunningUnit) (es : List (Event BadUnit)) (w : World) (flying : List ChildInFlight) → Changes project first running es w flying → (index : ℕ) (a : RunningUnit) → AreApart (indices_of running) → slice_get running index ≡ Some a
    → (running' : List RunningUnit) → running' ≡ remove running index → AllByRecursion (FliesBeside project es (Some a.unit)) running'
beside_asked project first running es w flying old index a indices at running' is =
    subst (AllByRecursion (FliesBeside project es (Some a.unit))) (sym is)
    (all_left (FliesIn project es w flying) (FliesBeside project es (Some a.unit)) running index (λ j y at_j ne f. record {
      state = f.state;
      started = f.started;
      other = λ e. apart_indices (indices_of running) j index y.unit a.unit indices (get_map index_of_unit running j y at_j) (get_map index_of_unit running index a at) ne (sym (injective e));
    }) old.flies)

-- Nothing has begun.

pub changes_first : (project : Project) (w : World) (running : List RunningUnit) (flying : List ChildInFlight) → running ≡ [] → Changes project w running [] w flying
changes_first project w running flying none = record {
  flies = subst (AllByRecursion (FliesIn project [] w flying)) (sym none) tt;
  only = record { variables = refl; files = λ q outside. refl };
  unkept = none_bad project w;
}

module _ (project : Project) (order : IsInOrder project) (first : World) (running : List RunningUnit) (es : List (Event BadUnit)) (w w' : World) (flying flying' : List ChildInFlight) (old : Changes project first running es w flying)
    (flies : (index : ℕ) (a : RunningUnit) → slice_get running index ≡ Some a → IfSome (child_of a.begun) (λ l. is_flying l.ticket flying ≡ true)) where
  -- A unit begins.

  module _ (unit : ℕ) (u : Planned) (there : unit_at project unit ≡ Some u) (untouched : slice_get (states_in project es) unit ≡ Some Untouched) (only : ChangesOnly (is_of (records_folder project) u.key) w w')
      (stay : (ticket : ℕ) (its : ChildInFlight) → child_at ticket flying ≡ Some its → child_at ticket flying' ≡ Some its) (spawned : Bool) where
    flies_on : (index : ℕ) (a : RunningUnit) → slice_get running index ≡ Some a → FliesIn project es w flying a → FliesIn project (Began unit spawned ∷ es) w' flying' a
    flies_on index a at f = let ne = another (states_in project es) unit a.unit untouched (Begun, f.state, refl) in record {
      state = get_set_other (states_in project es) unit a.unit Begun ne ∙ f.state;
      started = started_other es unit a.unit spawned ne ∙ f.started;
      gone = λ v is launched. none_still project order es w w' unit u there only a.unit v is (λ e. ne (sym e)) (f.gone v is launched);
      writes = λ v is. writes_on v.out (child_of a.begun) flying flying' (flies index a at) (λ l o its. stay l.ticket its) (f.writes v is);
    }

    others_on : Changes project first running (Began unit spawned ∷ es) w' flying'
    others_on = record {
      flies = all_at_each (FliesIn project es w flying) (FliesIn project (Began unit spawned ∷ es) w' flying') running flies_on old.flies;
      only = only_more project es (Began unit spawned) first w w' unit u there (begun_now (states_in project es) unit Untouched Begun untouched refl) (λ unit_index has. begun_more (states_in project es) unit unit_index Untouched Begun untouched refl has) only old.only;
      unkept = bad_begun project order es w w' unit u there only old.unkept spawned untouched;
    }

    -- a fault came
    pub changes_begun : (running' : List RunningUnit) → running' ≡ running → Changes project first running' (Began unit spawned ∷ es) w' flying'
    changes_begun running' is = subst (λ (items : List RunningUnit). Changes project first items (Began unit spawned ∷ es) w' flying') (sym is) others_on

    -- it is in flight
    pub changes_more : (a : RunningUnit) (running' : List RunningUnit) → a.unit ≡ unit → running' ≡ running ++ a ∷ [] → WritesTo u.out (child_of a.begun) flying' → spawned ≡ is_some (child_of a.begun) → (IsSome (child_of a.begun) → HasNoRecord project u w') → Changes project first running' (Began unit spawned ∷ es) w' flying'
    changes_more a running' its is writes flag none = record {
      flies = subst (AllByRecursion (FliesIn project (Began unit spawned ∷ es) w' flying')) (sym is) (all_more (FliesIn project (Began unit spawned ∷ es) w' flying') running (a ∷ []) others_on.flies (own, tt));
      only = others_on.only;
      unkept = others_on.unkept;
    }
      where
        own : FliesIn project (Began unit spawned ∷ es) w' flying' a
        own = record {
          state = subst (λ n. slice_get (slice_set (states_in project es) unit Begun) n ≡ Some Begun) (sym its) (get_set_same (states_in project es) unit Untouched Begun untouched);
          started = ap (is_started (Began unit spawned ∷ es)) its ∙ started_now es unit spawned ∙ flag;
          gone = λ v at launched. subst (λ (x : Planned). HasNoRecord project x w') (injective (sym there ∙ subst (λ n. unit_at project n ≡ Some v) its at)) (none launched);
          writes = λ v at. subst (λ (x : Planned). WritesTo x.out (child_of a.begun) flying') (injective (sym there ∙ subst (λ n. unit_at project n ≡ Some v) its at)) writes;
        }

  -- A unit answers, or a fault comes in its place.

  module _ (index : ℕ) (a : RunningUnit) (at : slice_get running index ≡ Some a) (u : Planned) (there : unit_at project a.unit ≡ Some u) where
    so : FliesIn project es w flying a
    so = all_get (FliesIn project es w flying) running index a old.flies at

    pub its_writes : WritesTo u.out (child_of a.begun) flying
    its_writes = so.writes u there

    module _ (indices : AreApart (indices_of running)) (tickets : AreApart (tickets_of running)) (only : ChangesOnly (is_of (records_folder project) u.key) w w')
        (stay : (ticket : ℕ) (its : ChildInFlight) → IfSome (child_of a.begun) (λ l. ticket ≢ l.ticket) → child_at ticket flying ≡ Some its → child_at ticket flying' ≡ Some its) (running' : List RunningUnit) (is : running' ≡ remove running index) where
      ne_unit : (j : ℕ) (y : RunningUnit) → slice_get running j ≡ Some y → j ≢ index → a.unit ≢ y.unit
      ne_unit j y at_j ne e = apart_indices (indices_of running) j index y.unit a.unit indices (get_map index_of_unit running j y at_j) (get_map index_of_unit running index a at) ne (sym e)

      other_ticket : (j : ℕ) (y : RunningUnit) → slice_get running j ≡ Some y → j ≢ index → (l : SpawnedChild) → (child_of y.begun) ≡ Some l → (o : Option SpawnedChild) → (child_of a.begun) ≡ o → IfSome o (λ k. l.ticket ≢ k.ticket)
      other_ticket j y at_j ne l theirs None ours = tt
      other_ticket j y at_j ne l theirs (Some k) ours = flat_apart (λ (x : RunningUnit). ticket_in (child_of x.begun)) running j index y a l.ticket k.ticket tickets at_j at (ap ticket_in theirs) (ap ticket_in ours) ne

      writes_still : (j : ℕ) (y : RunningUnit) → slice_get running j ≡ Some y → j ≢ index → FliesIn project es w flying y → (v : Planned) → unit_at project y.unit ≡ Some v → WritesTo v.out (child_of y.begun) flying'
      writes_still j y at_j ne f v at_v = writes_on v.out (child_of y.begun) flying flying' (flies j y at_j) (λ l theirs its. stay l.ticket its (other_ticket j y at_j ne l theirs (child_of a.begun) refl)) (f.writes v at_v)

      gone_still : (j : ℕ) (y : RunningUnit) → slice_get running j ≡ Some y → j ≢ index → FliesIn project es w flying y → (v : Planned) → unit_at project y.unit ≡ Some v → IsSome (child_of y.begun) → HasNoRecord project v w'
      gone_still j y at_j ne f v at_v launched = none_still project order es w w' a.unit u there only y.unit v at_v (λ e. ne_unit j y at_j ne (sym e)) (f.gone v at_v launched)

      -- no answer is noted
      pub changes_less : Changes project first running' es w' flying'
      changes_less = record {
        flies = subst (AllByRecursion (FliesIn project es w' flying')) (sym is)
            (all_left (FliesIn project es w flying) (FliesIn project es w' flying') running index (λ j y at_j ne f. record {
              state = f.state;
              started = f.started;
              gone = gone_still j y at_j ne f;
              writes = writes_still j y at_j ne f;
            }) old.flies);
        only = record {
          variables = only.variables ∙ old.only.variables;
          files = λ q outside. only.files q (outside a.unit u (Begun, so.state, refl) there) ∙ old.only.files q outside;
        };
        unkept = bad_less project order es w w' a.unit u there only old.unkept so.state;
      }

      -- it is
      pub changes_after : (answer : Answer BadUnit) → (IsSome answer.fault → HasNoRecord project u w → HasNoRecord project u w') → Changes project first running' (Gave a.unit answer ∷ es) w' flying'
      changes_after answer unkept = record {
        flies = subst (AllByRecursion (FliesIn project (Gave a.unit answer ∷ es) w' flying')) (sym is)
            (all_left (FliesIn project es w flying) (FliesIn project (Gave a.unit answer ∷ es) w' flying') running index (λ j y at_j ne f. record {
              state = get_set_other (states_in project es) a.unit y.unit (Answered answer) (ne_unit j y at_j ne) ∙ f.state;
              started = f.started;
              gone = gone_still j y at_j ne f;
              writes = writes_still j y at_j ne f;
            }) old.flies);
        only = only_more project es (Gave a.unit answer) first w w' a.unit u there (begun_now (states_in project es) a.unit Begun (Answered answer) so.state refl) (λ unit_index has. begun_more (states_in project es) a.unit unit_index Begun (Answered answer) so.state refl has) only old.only;
        unkept = bad_given project order es w w' a.unit u there only old.unkept answer so.state (λ bad started. unkept bad (so.gone u there (sym so.started ∙ started)));
      }
