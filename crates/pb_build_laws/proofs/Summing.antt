-- A summary by its definition says what the law says.
use Rattle.std.proofs.Common.{◌≡◌, ◌∙◌, ◌++◌, ◌∷◌, [], ℕ, Bool, List, Option, Some, None, is_none, map, refl, sym, ap, subst, slice_get}
use Rattle.std.specs.List.{cons_option, filter_map, flat_map, zip}
use Rattle.std.specs.Option.{option_flatten, option_map, option_map_or}
use Rattle.pb_build_result.specs.declared.bad_unit.BadUnit.{BadUnit}
use Rattle.pb_build_result.specs.declared.summary.Summary.{Summary}
use Rattle.pb_directive.specs.declared.directive.Directive.{Directive}
use Rattle.pb_run_flight.specs.Events.{Event, started_by}
use Rattle.pb_command_types.specs.Targets.{unit_at}
use Rattle.pb_command_types.specs.declared.fault.UnitFault.{UnitFault}
use Rattle.pb_command_types.specs.declared.project.Project.{Project}
use Rattle.pb_run.specs.UnitSteps.{key_in}
use Rattle.pb_run.specs.Outcome.{Outcome, Waiting, Good, Bad, directives_in}
use Rattle.pb_store.specs.declared.difference.Difference.{Difference}
use Rattle.pb_build_turns.specs.Rows.{Reasons, Row, bad_of, bad_or, difference_in, directives_told, fault_in, is_success, kept_key, kept_of, key_told, keyed, said_told, summary_of}
use Rattle.pb_unit.specs.declared.plan.Planned.{Planned}
use Rattle.pb_build_laws.specs.Summaries.{IsSummary, SummariesSay, first_bad_unit, kept_in}

-- the first bad unit

abbrev bad_in : Row → Option (List ℕ × BadUnit)
bad_in row = option_map (λ bad. (row.unit.key, bad)) (fault_in row.outcome)

bad_here : (key : List ℕ) (o : Outcome) (rest : List (List ℕ × BadUnit)) → bad_or key o (slice_get rest 0) ≡ slice_get (cons_option (option_map (λ bad. (key, bad)) (fault_in o)) rest) 0
bad_here key Waiting rest = refl
bad_here key (Good files directives messages) rest = refl
bad_here key (Bad bad messages) rest = refl

bad_is : (rows : List Row) → bad_of rows ≡ first_bad_unit rows
bad_is [] = refl
bad_is (row ∷ rows) = ap (bad_or row.unit.key row.outcome) (bad_is rows) ∙ bad_here row.unit.key row.outcome (filter_map bad_in rows)

success_is : (bad : Option (List ℕ × BadUnit)) → is_success bad ≡ is_none bad
success_is None = refl
success_is (Some bad) = refl

key_is : (bad : Option (List ℕ × BadUnit)) → key_told bad ≡ option_map (λ bad. (bad.0, bad.1.fault)) bad
key_is None = refl
key_is (Some bad) = refl

said_is : (bad : Option (List ℕ × BadUnit)) → said_told bad ≡ option_map_or (λ bad. bad.1.said) bad []
said_is None = refl
said_is (Some bad) = refl

-- the units for which a child was started

key_here : (found : Option Planned) (rest : List Planned) → key_in found ++ map (λ (u : Planned). u.key) rest ≡ map (λ (u : Planned). u.key) (cons_option found rest)
key_here None rest = refl
key_here (Some u) rest = refl

started_is : (project : Project) (indices : List ℕ) → flat_map (λ index. key_in (unit_at project index)) indices ≡ map (λ (u : Planned). u.key) (filter_map (unit_at project) indices)
started_is project [] = refl
started_is project (index ∷ indices) = ap (λ keys. key_in (unit_at project index) ++ keys) (started_is project indices) ∙ key_here (unit_at project index) (filter_map (unit_at project) indices)

difference_here : (noted : Option (Option (Option Difference))) (rest : List Difference) → difference_in noted ++ rest ≡ cons_option (option_flatten (option_flatten noted)) rest
difference_here None rest = refl
difference_here (Some None) rest = refl
difference_here (Some (Some None)) rest = refl
difference_here (Some (Some (Some difference))) rest = refl

differences_is : (reasons : Reasons) (indices : List ℕ) → flat_map (λ index. difference_in (slice_get reasons index)) indices ≡ filter_map (λ index. option_flatten (option_flatten (slice_get reasons index))) indices
differences_is reasons [] = refl
differences_is reasons (index ∷ indices) =
    ap (λ more. difference_in (slice_get reasons index) ++ more) (differences_is reasons indices)
    ∙ difference_here (slice_get reasons index) (filter_map (λ index. option_flatten (option_flatten (slice_get reasons index))) indices)

-- those of which nothing differed

kept_here : (u : Planned) (reason : Option (Option Difference)) (rest : List (List ℕ)) → kept_key u.key reason ++ rest ≡ cons_option (kept_in (u, reason)) rest
kept_here u None rest = refl
kept_here u (Some None) rest = refl
kept_here u (Some (Some difference)) rest = refl

kept_is : (units : List Planned) (reasons : Reasons) → kept_of units reasons ≡ filter_map kept_in (zip units reasons)
kept_is [] reasons = refl
kept_is (u ∷ us) [] = refl
kept_is (u ∷ us) (reason ∷ reasons) = ap (λ keys. kept_key u.key reason ++ keys) (kept_is us reasons) ∙ kept_here u reason (filter_map kept_in (zip us reasons))

-- what the runs said

abbrev told_in : Row → Option (List ℕ × List Directive)
told_in row = option_map (λ directives. (row.unit.key, directives)) (directives_in row.outcome)

told_here : (key : List ℕ) (told : Option (List Directive)) (rest : List (List ℕ × List Directive)) → keyed key told ++ rest ≡ cons_option (option_map (λ directives. (key, directives)) told) rest
told_here key None rest = refl
told_here key (Some directives) rest = refl

told_is : (rows : List Row) → directives_told rows ≡ filter_map told_in rows
told_is [] = refl
told_is (row ∷ rows) = ap (λ more. keyed row.unit.key (directives_in row.outcome) ++ more) (told_is rows) ∙ told_here row.unit.key (directives_in row.outcome) (filter_map told_in rows)

-- all of it

module _ (project : Project) (es : List (Event BadUnit)) (reasons : Reasons) (rows : List Row) where
  says : IsSummary project es reasons rows (summary_of project es reasons rows)
  says = record {
    success = success_is (bad_of rows) ∙ ap is_none (bad_is rows);
    bad = key_is (bad_of rows) ∙ ap (λ bad. option_map (λ (b : List ℕ × BadUnit). (b.0, b.1.fault)) bad) (bad_is rows);
    said = said_is (bad_of rows) ∙ ap (λ bad. option_map_or (λ (b : List ℕ × BadUnit). b.1.said) bad []) (bad_is rows);
    started = started_is project (started_by es);
    differences = differences_is reasons (started_by es);
    kept = kept_is project.plan.planned reasons;
    directives = told_is rows;
  }

-- a summary of its parts
unfoldable made : Bool → Option (List ℕ × UnitFault) → List ℕ → List (List ℕ) → List Difference → List (List ℕ) → List (List ℕ × List Directive) → Summary
made success bad said started differences kept directives = record {
  success = success;
  bad = bad;
  said = said;
  started = started;
  differences = differences;
  kept = kept;
  directives = directives;
}

module _ (project : Project) (es : List (Event BadUnit)) (reasons : Reasons) (rows : List Row) (s t : Summary) (one : IsSummary project es reasons rows s) (other : IsSummary project es reasons rows t) where
  parts_same : made s.success s.bad s.said s.started s.differences s.kept s.directives ≡ made t.success t.bad t.said t.started t.differences t.kept t.directives
  parts_same =
      let success = one.success ∙ sym other.success in
      let bad = one.bad ∙ sym other.bad in
      let said = one.said ∙ sym other.said in
      let started = one.started ∙ sym other.started in
      let differences = one.differences ∙ sym other.differences in
      let kept = one.kept ∙ sym other.kept in
      let directives = one.directives ∙ sym other.directives in
      cc

  summaries_same : s ≡ t
  unfolding made
  summaries_same = parts_same

pub summaries_say : SummariesSay
summaries_say project es reasons rows summary = (
  λ same. subst (IsSummary project es reasons rows) (sym same) (says project es reasons rows),
  λ is_modelled. summaries_same project es reasons rows summary (summary_of project es reasons rows) is_modelled (says project es reasons rows),
)
