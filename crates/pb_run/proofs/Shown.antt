-- The command and the view of a unit whose reached units stand, each with its files.
use Rattle.std.proofs.Common.{◌≡◌, ◌∙◌, ◌++◌, ◌<◌, ◌⊎◌, inl, inr, zero, suc, true, List, [], ◌∷◌, ℕ, Option, Some, Contains, refl, sym, ap, subst, arith, slice_get, take}
use Rattle.std.proofs.lemmas.Option.{slice_get-map}
use Rattle.std.specs.List.{list_all, flat_map, AllByRecursion}
use Rattle.std.specs.Option.{option_map}
use Rattle.pb_command.specs.Command.{command_of}
use Rattle.pb_command_arguments.specs.Externs.{folder_in, reads_of}
use Rattle.pb_directive.specs.declared.directive.Directive.{Directive}
use Rattle.pb_place_types.specs.Folders.{over, folders_over}
use Rattle.pb_place_types.specs.World.{World, Map, seen_by, from_nothing}
use Rattle.pb_place_types.proofs.Folders.{sees_folders}
use Rattle.pb_command_types.specs.Targets.{unit_at}
use Rattle.pb_unit.specs.declared.plan.Planned.{Planned}
use Rattle.pb_run.specs.UnitSteps.{BuildContext, StandsGood, outcomes_in, command_in, view_in}
use Rattle.pb_run.specs.Outcome.{Outcome, files_at, is_good_at, with_made, directives_in, directives_of}
use Rattle.pb_run.specs.Invariants.{IsInOrder}
use Rattle.pb_run.proofs.Commands.{command_same}
use Rattle.pb_run.proofs.Views.{IsFor, is_for}
use Rattle.pb_store_soundness.proofs.Flying.{contains_head, contains_tail}

pub contains_none : {X : Type 0} (v : X) → Contains [] v → ⊥
contains_none v (k, lt, at) = omega (arith, lt)

pub contains_cases : {X : Type 0} (x : X) (xs : List X) (v : X) → Contains (x ∷ xs) v → (x ≡ v) ⊎ Contains xs v
contains_cases x xs v (zero, lt, at) = inl at
contains_cases x xs v (suc k, lt, at) = inr (k, omega arith, at)

pub before_take : {A : Type 0} (n i : ℕ) (xs : List A) → i < n → slice_get (take n xs) i ≡ slice_get xs i
before_take zero i xs less = absurd (omega (arith, less))
before_take (suc n) i [] less = refl
before_take (suc n) zero (x ∷ xs) less = refl
before_take (suc n) (suc i) (x ∷ xs) less = before_take n i xs (omega (arith, less))

pub each_of : {A : Type 0} (P : A → Type 0) (xs : List A) (x : A) → AllByRecursion P xs → Contains xs x → P x
each_of P [] x all has = absurd (contains_none x has)
each_of P (y ∷ xs) x all has = elim (contains_cases y xs x has) [
  | inl same ↦ subst P same all.0
  | inr more ↦ each_of P xs x all.1 more
]

-- each unit that is reached stands with the files of its outcome
abbrev pub AllStand : BuildContext → List (Option (List Directive)) → World → List ℕ → Type 0
AllStand b done w indices = (index : ℕ) → Contains indices index → StandsGood b done w index

module _ (b : BuildContext) (done : List (Option (List Directive))) (w : World) (n : ℕ) where
  good_one : (index : ℕ) → StandsGood b done w index → index < n → is_good_at (slice_get (take n (outcomes_in b)) index) ≡ true
  good_one index s less = ap is_good_at (before_take n index (outcomes_in b) less ∙ s.good)

  pub good_needs : (indices : List ℕ) → AllByRecursion (λ v. v < n) indices → AllStand b done w indices → list_all (λ v. is_good_at (slice_get (take n (outcomes_in b)) v)) indices ≡ true
  good_needs [] all stand = refl
  good_needs (index ∷ indices) all stand = rw (good_one index (stand index (contains_head index indices)) all.0, good_needs indices all.1 (λ v has. stand v (contains_tail index indices v has)))

  one_over : (index : ℕ) (rest : List (List ℕ)) (m : Map) → StandsGood b done w index → index < n
      → folders_over (folder_in (unit_at b.project index) ++ rest) w.files m ≡ over (files_at (slice_get (take n (outcomes_in b)) index)) (folders_over rest w.files m)
  one_over index rest m s less =
      ap (λ (x : Option Planned). folders_over (folder_in x ++ rest) w.files m) s.there
      ∙ ap (λ (f : Map). over f (folders_over rest w.files m)) s.holds
      ∙ sym (ap (λ (o : Option Outcome). over (files_at o) (folders_over rest w.files m)) (before_take n index (outcomes_in b) less ∙ s.good))

  all_over : (indices : List ℕ) (m : Map) → AllByRecursion (λ v. v < n) indices → AllStand b done w indices
      → folders_over (flat_map (λ index. folder_in (unit_at b.project index)) indices) w.files m ≡ with_made (take n (outcomes_in b)) indices m
  all_over [] m all stand = refl
  all_over (index ∷ indices) m all stand =
      one_over index (flat_map (λ v. folder_in (unit_at b.project v)) indices) m (stand index (contains_head index indices)) all.0
      ∙ ap (over (files_at (slice_get (take n (outcomes_in b)) index))) (all_over indices m all.1 (λ v has. stand v (contains_tail index indices v has)))

  noted_one : (index : ℕ) → StandsGood b done w index → index < n → slice_get done index ≡ slice_get (directives_of (take n (outcomes_in b))) index
  noted_one index s less = s.noted ∙ sym (slice_get-map directives_in (take n (outcomes_in b)) index ∙ ap (option_map directives_in) (before_take n index (outcomes_in b) less ∙ s.good))

module _ (b : BuildContext) (done : List (Option (List Directive))) (w : World) (i : ℕ) (u : Planned) (order : IsInOrder b.project) (at : unit_at b.project i ≡ Some u) (stand : AllStand b done w u.reaches) where
  pub commanded : command_of b.setup b.project u done ≡ command_in b i u
  commanded = command_same b.setup b.project u done (directives_of (take i (outcomes_in b))) (order.needs_reached i u at)
      (λ index has. noted_one b done w i index (stand index has) (each_of (λ v. v < i) u.reaches index (order.reaches i u at) has))

  pub is_for_unit : IsFor b.project u (command_in b i u)
  is_for_unit = is_for b.setup b.project u (directives_of (take i (outcomes_in b))) (order.packages i u at)

  -- it is shown its view
  pub sees_view : from_nothing b.project.workspace.target w ≡ b.sources → seen_by (command_in b i u) w ≡ view_in b i u
  sees_view sources =
      let c = command_in b i u in
      let for = is_for_unit in
      sees_folders c w
      ∙ ap (λ (reads : List (List ℕ)). record w { files = folders_over reads w.files (from_nothing c.target w).files }) for.reads
      ∙ ap (λ (target : List ℕ). record w { files = folders_over (reads_of b.project u) w.files (from_nothing target w).files }) for.target
      ∙ ap (λ (m : Map). record w { files = m }) (all_over b done w i u.reaches (from_nothing b.project.workspace.target w).files (order.reaches i u at) stand)
      ∙ ap (λ (v : World). record v { files = with_made (take i (outcomes_in b)) u.reaches v.files }) sources
