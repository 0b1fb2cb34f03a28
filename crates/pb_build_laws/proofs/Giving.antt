-- The outcomes of a build, one by one, are what the laws say; and the inputs that are found in a reply.
use Rattle.std.proofs.Common.{◌≡◌, ◌∙◌, ◌↔◌, ◌+◌, ◌++◌, ◌∷◌, [], ℕ, zero, suc, if◌then◌else◌, List, length, Option, Some, None, Result, Ok, Err, refl, sym, ap, subst, arith, slice_get, take}
use Rattle.std.specs.Prelude.{IsOkAnd, option_and_then}
use Rattle.std.specs.FinMap as finite
use Rattle.std.specs.List.{list_all}
use Rattle.pb_command.proofs.Judged.{judges_as_answered}
use Rattle.pb_command_reply.specs.Answers.{answered_of}
use Rattle.pb_command.specs.Command.{command_of}
use Rattle.pb_command.specs.Judge.{ended_by, file_at, inputs_if, judge, replied_files}
use Rattle.pb_message.specs.declared.message.Message.{Message}
use Rattle.pb_place_types.specs.World.{World, Map, Answers}
use Rattle.pb_place_types.specs.declared.child.Reply.{Reply}
use Rattle.pb_place_types.specs.declared.command.Command.{Command}
use Rattle.pb_command_types.specs.Targets.{dep_info_of}
use Rattle.pb_command_types.specs.declared.checked_reply.CheckedReply.{CheckedReply}
use Rattle.pb_command_types.specs.declared.fault.UnitFault.{UnitFault}
use Rattle.pb_command_types.specs.declared.project.Project.{Project}
use Rattle.pb_command_types.specs.declared.project.Setup.{Setup}
use Rattle.pb_record.specs.declared.record.InputName.{InputName}
use Rattle.pb_run.proofs.Tables.{length-tabled_from, tabled-unfold}
use Rattle.pb_run.specs.Outcome.{Outcome, Waiting, Good, Bad, command_after, is_good_at, judged, outcome_by, outcome_of, outcomes, ran_by, tabled_from, view_of}
use Rattle.pb_unit.specs.declared.plan.Planned.{Planned}
use Rattle.pb_build_laws.proofs.Told.{bad_units_tell, good_units_tell}
use Rattle.pb_build_laws.specs.Outcomes.{InputsAreJudged, OutcomesAreThese, answer_in, given_by, given_to, has_given, outcome_after}

-- one outcome

file_is : (path : Option (List ℕ)) (files : Map) → file_at path files ≡ option_and_then (finite.get files) path
file_is None files = refl
file_is (Some path) files = refl

answer_is : (project : Project) (u : Planned) (c : Command) (r : Reply) → answered_of project u c (ended_by r) (file_at (dep_info_of project u) (replied_files u.out r)) ≡ answer_in project u c r
answer_is project u c r = ap (answered_of project u c (ended_by r)) (file_is (dep_info_of project u) (replied_files u.out r))

by_answer : (project : Project) (u : Planned) (r : Reply) (a : Result CheckedReply UnitFault) → outcome_by (replied_files u.out r) (ran_by project u (ended_by r) a) ≡ given_by project u r a
by_answer project u r (Ok a) = ap (Good (replied_files u.out r) a.directives) (good_units_tell project u r.stderr a.directives)
by_answer project u r (Err fault) = ap (λ (told : List Message × List ℕ). Bad record { fault = fault; said = told.1 } told.0) (bad_units_tell u.unit.what fault (ended_by r))

judged_is : (project : Project) (u : Planned) (c : Command) (r : Reply) → judged project u c r ≡ given_to project u c r
judged_is project u c r = ap (λ a. outcome_by (replied_files u.out r) (ran_by project u (ended_by r) a)) (answer_is project u c r) ∙ by_answer project u r (answer_in project u c r)

good_is : (o : Option Outcome) → is_good_at o ≡ has_given o
good_is None = refl
good_is (Some Waiting) = refl
good_is (Some (Good files directives messages)) = refl
good_is (Some (Bad bad messages)) = refl

all_good : (done : List Outcome) (indices : List ℕ) → list_all (λ index. is_good_at (slice_get done index)) indices ≡ list_all (λ index. has_given (slice_get done index)) indices
all_good done [] = refl
all_good done (index ∷ indices) = let here = good_is (slice_get done index) in let rest = all_good done indices in cc

outcome_is : (child : Answers) (setup : Setup) (project : Project) (sources : World) (done : List Outcome) (u : Planned) → outcome_of child setup project sources done u ≡ outcome_after child setup project sources done u
outcome_is child setup project sources done u =
    let c = command_after setup project done u in
    ap (λ all. if all then judged project u c (child c (view_of done sources u)) else Waiting) (all_good done u.needs)
    ∙ ap (λ o. if list_all (λ index. has_given (slice_get done index)) u.needs then o else Waiting) (judged_is project u c (child c (view_of done sources u)))

-- a table is what its entries say

take_one : {A : Type 0} (xs : List A) (n : ℕ) (x : A) → slice_get xs n ≡ Some x → take (suc n) xs ≡ take n xs ++ x ∷ []
take_one [] n x at = absurd (cc)
take_one (y ∷ xs) zero x at = let same : y ≡ x = cc in ap (λ z. z ∷ []) same
take_one (y ∷ xs) (suc n) x at = ap (λ ys. y ∷ ys) (take_one xs n x at)

take_whole : {A : Type 0} (xs : List A) (n : ℕ) → length xs ≡ n → take n xs ≡ xs
take_whole [] zero e = refl
take_whole [] (suc n) e = refl
take_whole (x ∷ xs) zero e = absurd (omega (arith, e))
take_whole (x ∷ xs) (suc n) e = ap (λ ys. x ∷ ys) (take_whole xs n (omega (arith, e)))

module _ {U A : Type 0} (step : List A → U → A) (whole : List A) where
  pub one_table : (us : List U) (n : ℕ) → length whole ≡ n + length us → ((i : ℕ) (u : U) → slice_get us i ≡ Some u → slice_get whole (n + i) ≡ Some (step (take (n + i) whole) u)) → whole ≡ tabled_from step (take n whole) us
  one_table [] n long each = sym (take_whole whole n (omega (arith, long)))
  one_table (u ∷ us) n long each =
      let here : n + 0 ≡ n = omega arith in
      let at : slice_get whole n ≡ Some (step (take n whole) u) = subst (λ k. slice_get whole k ≡ Some (step (take k whole) u)) here (each 0 u refl) in
      let on : (i : ℕ) → n + suc i ≡ suc n + i = λ i. omega arith in
      one_table us (suc n) (omega (arith, long)) (λ i v has. subst (λ k. slice_get whole k ≡ Some (step (take k whole) v)) (on i) (each (suc i) v has))
      ∙ ap (λ done. tabled_from step done us) (take_one whole n (step (take n whole) u) at)

module _ (child : Answers) (setup : Setup) (project : Project) (sources : World) where
  abbrev step : List Outcome → Planned → Outcome
  step = outcome_of child setup project sources

  entries : (index : ℕ) (u : Planned) → slice_get project.plan.planned index ≡ Some u
      → slice_get (outcomes child setup project sources) index ≡ Some (outcome_after child setup project sources (take index (outcomes child setup project sources)) u)
  entries index u at = tabled-unfold step project.plan.planned index u at ∙ ap Some (outcome_is child setup project sources (take index (outcomes child setup project sources)) u)

  one_each : length (outcomes child setup project sources) ≡ length project.plan.planned
  one_each = let long : length (outcomes child setup project sources) ≡ 0 + length project.plan.planned = length-tabled_from step [] project.plan.planned in omega (arith, long)

  by_entries : (os : List Outcome) → length os ≡ length project.plan.planned
      → ((index : ℕ) (u : Planned) → slice_get project.plan.planned index ≡ Some u → slice_get os index ≡ Some (outcome_after child setup project sources (take index os) u)) → os ≡ outcomes child setup project sources
  by_entries os long each = one_table step os project.plan.planned 0 (omega (arith, long)) (
      λ index u at. let same : index ≡ 0 + index = omega arith in
      subst (λ k. slice_get os k ≡ Some (step (take k os) u)) same (each index u at ∙ ap Some (sym (outcome_is child setup project sources (take index os) u)))
      )

pub outcomes_are_these : OutcomesAreThese
outcomes_are_these child setup project sources os = (
  λ same. subst (λ os. (length os ≡ length project.plan.planned) × ((index : ℕ) (u : Planned) → slice_get project.plan.planned index ≡ Some u → slice_get os index ≡ Some (outcome_after child setup project sources (take index os) u)))
      (sym same) (one_each child setup project sources, entries child setup project sources),
  λ (long, each). by_entries child setup project sources os long each,
)

-- the inputs in a reply

inputs_of : (a : Result CheckedReply UnitFault) (names : List InputName) → (inputs_if a ≡ Some names) ↔ IsOkAnd a (λ answered. answered.inputs ≡ names)
inputs_of (Ok a) names = (λ same. cc, λ same. ap Some same)
inputs_of (Err fault) names = (λ same. cc, λ never. absurd never)

pub inputs_are_judged : InputsAreJudged
inputs_are_judged setup project u done selection index r names settled plan at =
    let c = command_of setup project u done in
    let same : judge c r ≡ inputs_if (answer_in project u c r) = judges_as_answered setup project u done selection index r settled plan at ∙ ap inputs_if (answer_is project u c r) in
    subst (λ found. (found ≡ Some names) ↔ IsOkAnd (answer_in project u c r) (λ answered. answered.inputs ≡ names)) (sym same) (inputs_of (answer_in project u c r) names)
