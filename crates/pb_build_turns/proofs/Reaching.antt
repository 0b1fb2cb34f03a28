-- What a unit that may begin reaches is good; and whose paths are whose.
use Rattle.std.proofs.Common.{◌≡◌, ◌≢◌, ◌⊎◌, ◌∙◌, ◌<◌, ◌||◌, inl, inr, Bool, true, false, List, [], ◌∷◌, ℕ, zero, suc, Option, Some, None, Contains, refl, sym, ap, subst, arith, slice_get, get_or, map, length}
use Rattle.std.proofs.lemmas.Bool.{false≢true}
use Rattle.std.proofs.lemmas.List.{length-map}
use Rattle.std.proofs.lemmas.Option.{slice_get_read, slice_get_within}
use Rattle.pb_directive.specs.declared.directive.Directive.{Directive}
use Rattle.pb_run_flight.specs.declared.flight.State.{State}
use Rattle.pb_run_flight.specs.declared.flight.State.TheVariants.{Untouched, Begun, Answered}
use Rattle.pb_run_flight.specs.Events.{Event, Began, Gave, IsLawful, MayBegin}
use Rattle.pb_run_flight.specs.Laws.{HasBegun}
use Rattle.pb_run_flight.specs.Table.{is_good_at, are_good, is_untouched}
use Rattle.pb_run_flight.proofs.Handing.{began_lawful, gave_lawful}
use Rattle.pb_run_flight.proofs.Lists.{injective, clash}
use Rattle.pb_run_flight.proofs.Ready.{good_at, all_good}
use Rattle.pb_place_types.specs.Folders.{LieApart}
use Rattle.pb_place_types.specs.Paths.{is_at_or_below}
use Rattle.pb_place_types.specs.World.{World}
use Rattle.pb_place_types.proofs.Within.{share_no_path}
use Rattle.pb_command_types.specs.Targets.{unit_at}
use Rattle.pb_build_result.specs.declared.bad_unit.BadUnit.{BadUnit}
use Rattle.pb_command_types.specs.declared.project.Project.{Project}
use Rattle.pb_run.specs.UnitSteps.{BuildContext, BuildInvariant, CanBegin}
use Rattle.pb_run.specs.Invariants.{IsInOrder, IsReadByNeed, records_folder}
use Rattle.pb_run.proofs.Recorded.{read_reached, reached_read, keys_differ, indices_same}
use Rattle.pb_run.proofs.Shown.{each_of}
use Rattle.pb_store_soundness.specs.Apart.{is_of}
use Rattle.pb_store_soundness.specs.Records.{out_of, record_path}
use Rattle.pb_store_soundness.proofs.RecordPaths.{one_key, record_outside, records_differ, outs_apart, out_record_apart}
use Rattle.pb_build_turns.specs.Executor.{needs_of}
use Rattle.pb_build_turns.specs.History.{states_in}
use Rattle.pb_build_turns.proofs.States.{begun_cases, good_set}
use Rattle.pb_unit.specs.declared.plan.Planned.{Planned}
use Rattle.pb_build_turns.specs.declared.executor.UnitExecutor.{UnitExecutor}

-- a unit at an index before another of the list is there
unit_before : (us : List Planned) (i j : ℕ) (u : Planned) → slice_get us i ≡ Some u → j < i → (v : Planned) × (slice_get us j ≡ Some v)
unit_before [] i j u at less = absurd (clash at)
unit_before (v ∷ us) zero j u at less = absurd (omega (arith, less))
unit_before (v ∷ us) (suc i) zero u at less = (v, refl)
unit_before (v ∷ us) (suc i) (suc j) u at less = unit_before us i j u at (omega (arith, less))

needs_get : (us : List Planned) (i : ℕ) (u : Planned) → slice_get us i ≡ Some u → slice_get (map (λ (x : Planned). x.needs) us) i ≡ Some u.needs
needs_get [] i u at = absurd (clash at)
needs_get (v ∷ us) zero u at = ap (λ (x : Planned). Some x.needs) (injective at)
needs_get (v ∷ us) (suc i) u at = needs_get us i u at

-- a unit of which the needs are there
pub there_at : (us seen : List Planned) (index : ℕ) (u : Planned) → index < length (map (λ (x : Planned). x.needs) us) → seen ≡ us → u ≡ get_or seen index u → slice_get us index ≡ Some u
there_at us seen index u less same is =
    slice_get_read us (length us) index u refl (subst (λ n. index < n) (length-map us (λ (x : Planned). x.needs)) less) (subst (λ xs. u ≡ get_or xs index u) same is)

pub there_some : (us : List Planned) (index : ℕ) → index < length (map (λ (x : Planned). x.needs) us) → (u : Planned) × (slice_get us index ≡ Some u)
there_some [] index less = absurd (omega (arith, less))
there_some (u ∷ us) zero less = (u, refl)
there_some (u ∷ us) (suc index) less = there_some us index (omega (arith, less))

-- a unit of the plan has its index among the reasons
pub within_reasons : (c : UnitExecutor) (unit : ℕ) → length c.reasons.items ≡ length c.project.plan.planned → unit < length (needs_of c.project) → unit < length c.reasons.items
within_reasons c unit reasoned less = subst (λ n. unit < n) (length-map c.project.plan.planned (λ (u : Planned). u.needs) ∙ sym reasoned) less

-- a unit that is there and is
pub there_of : (us seen : List Planned) (index : ℕ) (u v : Planned) → slice_get us index ≡ Some v → seen ≡ us → u ≡ get_or seen index u → slice_get us index ≡ Some u
there_of us seen index u v there same is = slice_get_read us (length us) index u refl (slice_get_within us index v there) (subst (λ xs. u ≡ get_or xs index u) same is)

module _ (project : Project) (order : IsInOrder project) where
  same_out : (i j : ℕ) (u v : Planned) → unit_at project i ≡ Some u → unit_at project j ≡ Some v → u.out ≡ v.out → i ≡ j
  same_out i j u v at_i at_j same =
      indices_same project order i j u v at_i at_j (one_key (records_folder project) u.key v.key (sym (order.folders i u at_i) ∙ same ∙ order.folders j v at_j))

  -- the record's path of one unit is no path of another
  pub record_outside_other : (i j : ℕ) (u v : Planned) → unit_at project i ≡ Some u → unit_at project j ≡ Some v → i ≢ j → is_of (records_folder project) u.key (record_path (records_folder project) v.key) ≡ false
  record_outside_other i j u v at_i at_j apart =
      let left : is_at_or_below (out_of (records_folder project) u.key) (record_path (records_folder project) v.key) ≡ false = record_outside (records_folder project) u.key v.key (order.keys i u at_i) (order.keys j v at_j) in
      ap (λ b. b || is_at_or_below (record_path (records_folder project) u.key) (record_path (records_folder project) v.key)) left
      ∙ records_differ (records_folder project) u.key v.key (order.keys i u at_i) (order.keys j v at_j) (keys_differ project order i j u v at_i at_j apart)

one_of : (x y : Bool) → x || y ≡ true → (x ≡ true) ⊎ (y ≡ true)
one_of true y h = inl refl
one_of false y h = inr h

neither : (x y : Bool) → x ≡ false → y ≡ false → x || y ≡ false
neither x y p q = ap (λ z. z || y) p ∙ q

module _ (project : Project) (order : IsInOrder project) (i j : ℕ) (u v : Planned) (at_i : unit_at project i ≡ Some u) (at_j : unit_at project j ≡ Some v) (ne : i ≢ j) where
  keys : u.key ≢ v.key
  keys = keys_differ project order i j u v at_i at_j ne

  outs : LieApart (out_of (records_folder project) u.key) (out_of (records_folder project) v.key)
  outs = outs_apart (records_folder project) u.key v.key order.folder (order.keys i u at_i) (order.keys j v at_j) keys

  out_record : LieApart (out_of (records_folder project) u.key) (record_path (records_folder project) v.key)
  out_record = out_record_apart (records_folder project) u.key v.key order.folder (order.keys i u at_i) (order.keys j v at_j)

  record_out : LieApart (out_of (records_folder project) v.key) (record_path (records_folder project) u.key)
  record_out = out_record_apart (records_folder project) v.key u.key order.folder (order.keys j v at_j) (order.keys i u at_i)

  -- no path is of two units
  pub not_of_two : (q : List ℕ) → is_of (records_folder project) u.key q ≡ true → is_of (records_folder project) v.key q ≡ false
  not_of_two q its = elim (one_of (is_at_or_below (out_of (records_folder project) u.key) q) (is_at_or_below (record_path (records_folder project) u.key) q) its) [
    | inl at ↦ neither _ _
        (share_no_path (out_of (records_folder project) u.key) (out_of (records_folder project) v.key) q outs.first outs.second outs.not_below_first outs.not_below_second at)
        (share_no_path (out_of (records_folder project) u.key) (record_path (records_folder project) v.key) q out_record.first out_record.second out_record.not_below_first out_record.not_below_second at)
    | inr at ↦ neither _ _
        (share_no_path (record_path (records_folder project) u.key) (out_of (records_folder project) v.key) q record_out.second record_out.first record_out.not_below_second record_out.not_below_first at)
        (share_no_path (record_path (records_folder project) u.key) (record_path (records_folder project) v.key) q record_out.second out_record.second
        (records_differ (records_folder project) u.key v.key (order.keys i u at_i) (order.keys j v at_j) keys) (records_differ (records_folder project) v.key u.key (order.keys j v at_j) (order.keys i u at_i) (λ e. keys (sym e))) at)
  ]

-- all that a good unit reaches is good
abbrev Closed : Project → List (State BadUnit) → Type 0
Closed project states = (index : ℕ) (u : Planned) → is_good_at (slice_get states index) ≡ true → unit_at project index ≡ Some u → are_good states u.reaches ≡ true

module _ (project : Project) (order : IsInOrder project) (states : List (State BadUnit)) (closed : Closed project states) (index : ℕ) (u : Planned) (there : unit_at project index ≡ Some u) (may : MayBegin (needs_of project) states index) where
  need_good : (p : ℕ) → Contains u.needs p → is_good_at (slice_get states p) ≡ true
  need_good p has = may.good p (subst (λ ns. Contains ns p) (injective (sym (needs_get project.plan.planned index u there) ∙ may.unit)) has)

  reached_at : (p : ℕ) (x : Planned) → unit_at project p ≡ Some x → IsReadByNeed project u x.out → is_good_at (slice_get states p) ≡ true
  reached_at p x at by = elim by.own_or_read [
    | inl own ↦ subst (λ n. is_good_at (slice_get states n) ≡ true) (sym (same_out project order p by.index x by.need at by.there own)) (need_good by.index by.needed)
    | inr read ↦
        let (y, one, same) = read_reached project order by.need x.out read in
        subst (λ n. is_good_at (slice_get states n) ≡ true) (sym (same_out project order p one.index x y at one.there same))
        (good_at states by.need.reaches one.index (closed by.index by.need (need_good by.index by.needed) by.there) one.among)
  ]

  reached_good : are_good states u.reaches ≡ true
  reached_good = all_good states u.reaches (λ p has.
      let (x, at) = unit_before project.plan.planned index p u there (each_of (λ q. q < index) u.reaches p (order.reaches index u there) has) in
      reached_at p x at ((order.reads_are index u there x.out).0 (reached_read project order u x p has at)))

pub can_begin : (b : BuildContext) (order : IsInOrder b.project) (states : List (State BadUnit)) (done : List (Option (List Directive))) (next : Option ℕ) (w : World) (keeps : BuildInvariant b states done next w)
    (index : ℕ) (u : Planned) (there : unit_at b.project index ≡ Some u) (may : MayBegin (needs_of b.project) states index) → CanBegin b states done index u next w
can_begin b order states done next w keeps index u there may = record { keeps = keeps; untouched = may.untouched; reaches = reached_good b.project order states keeps.closed index u there may }

-- whatever is kept: all that a unit reaches that has begun is good

good_begun : (states : List (State BadUnit)) (index : ℕ) (o : Option (State BadUnit)) → slice_get states index ≡ o → is_good_at o ≡ true → HasBegun states index
good_begun states index None at good = absurd (false≢true good)
good_begun states index (Some Untouched) at good = absurd (false≢true good)
good_begun states index (Some Begun) at good = absurd (false≢true good)
good_begun states index (Some (Answered answer)) at good = (Answered answer, at, refl)

none_begun : (needs : List (List ℕ)) (index : ℕ) → HasBegun {F = BadUnit} (map (λ _. Untouched) needs) index → ⊥
none_begun [] index (s, at, begun) = clash at
none_begun (n ∷ needs) zero (s, at, begun) = false≢true (sym begun ∙ ap is_untouched (sym (injective at)))
none_begun (n ∷ needs) (suc index) has = none_begun needs index has

module _ (project : Project) (order : IsInOrder project) where
  pub all_reach : (es : List (Event BadUnit)) → IsLawful (needs_of project) es → (index : ℕ) (u : Planned) → HasBegun (states_in project es) index → unit_at project index ≡ Some u → are_good (states_in project es) u.reaches ≡ true
  all_reach [] lawful index u has at = absurd (none_begun (needs_of project) index has)
  all_reach (Began unit spawned ∷ es) lawful index u has at =
      let (before, may) = began_lawful (needs_of project) _ es unit spawned lawful in
      good_set (states_in project es) unit Untouched Begun u.reaches may.untouched refl (elim (begun_cases (states_in project es) unit index Begun has) [
        | inl same ↦
            reached_good project order (states_in project es) (λ p v good at_v. all_reach es before p v (good_begun (states_in project es) p (slice_get (states_in project es) p) refl good) at_v)
            unit u (ap (unit_at project) same ∙ at) may
        | inr begun ↦ all_reach es before index u begun at
      ])
  all_reach (Gave unit answer ∷ es) lawful index u has at =
      let (before, flies) = gave_lawful (needs_of project) _ es unit answer lawful in
      good_set (states_in project es) unit Begun (Answered answer) u.reaches flies refl (all_reach es before index u (elim (begun_cases (states_in project es) unit index (Answered answer) has) [
        | inl same ↦ (Begun, ap (slice_get (states_in project es)) (sym same) ∙ flies, refl)
        | inr begun ↦ begun
      ]) at)
