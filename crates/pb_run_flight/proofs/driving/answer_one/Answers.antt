use Rattle.std.proofs.Common.{◌≡◌, ◌∙◌, ◌∷◌, inl, inr, Some, sym, ap, subst, slice_get, slice_set}
use Rattle.std.proofs.lemmas.Option.{slice_get-get_or}
use Rattle.std.specs.Prelude.{slice_index_or}
use Rattle.pb_run_flight.specs.Table.{Table, count_due}
use Rattle.pb_run_flight.specs.declared.flight.State.TheVariants.{Answered}
use Rattle.pb_run_flight.specs.Events.{Gave, IsLawful, states_after}
use Rattle.pb_run_flight.specs.Events as events
use Rattle.pb_run_flight.proofs.Driven.{has_begun, item_is}
use Rattle.pb_run_flight.proofs.driving.answer_one.Goals as goal

pub answer-requires-2 : goal.answer-requires-2
answer-requires-2 g c =
    let (es, lawful, states, flying) = c.requires.flown in
    let at : slice_get c.args.flying.now c.args.index ≡ Some (slice_index_or c.args.flying.now c.args.index 0) = slice_get-get_or c.args.flying.now c.args.index 0 c.requires.within in
    record { flying = ap (λ ss. slice_get ss (slice_index_or c.args.flying.now c.args.index 0)) states ∙ has_begun c.args.flight.now.states (g.C.Executor.needs c.args.crew.now) es c.args.flying.now c.args.index _ lawful states (c.requires.lists.1 ∙ flying) at }

pub returns-in-Err-clause-story : goal.returns-in-Err-clause-story
returns-in-Err-clause-story g c = λ first first_place first_out es unit story flying lawful due states at.
    inl (c.in-Err.ensures.story first first_place first_out es c.args.flight.now.given unit story flying lawful due (ap (λ us. slice_get us c.args.index) (sym c.requires.lists.1) ∙ at)
    (has_begun c.args.flight.now.states (g.C.Executor.needs c.args.crew.now) es c.args.flying.now c.args.index unit lawful states (c.requires.lists.1 ∙ flying) at))

pub returns-in-Ok-tell-clause-table : goal.returns-in-Ok-tell-clause-table
returns-in-Ok-tell-clause-table g c = λ unit at. (
  c.in-Ok.answer,
  c.tell.ensures.table.0 ∙ ap (λ (t : Table g.row.F.Denot). t.needs) c.answer-2.ensures,
  c.tell.ensures.table.1 ∙ ap (λ (t : Table g.row.F.Denot). t.states) c.answer-2.ensures ∙ ap (λ u. slice_set c.args.flight.now.states u (Answered c.in-Ok.answer)) (item_is c.args.flying.now c.args.index unit at),
)

pub returns-in-Ok-tell-clause-story : goal.returns-in-Ok-tell-clause-story
returns-in-Ok-tell-clause-story g c = λ first first_place first_out es unit story flying lawful due states at.
    let begun = has_begun c.args.flight.now.states (g.C.Executor.needs c.args.crew.now) es c.args.flying.now c.args.index unit lawful states (c.requires.lists.1 ∙ flying) at in
    let told = c.in-Ok.ensures.story first first_place first_out es c.args.flight.now.given unit story flying lawful due (ap (λ us. slice_get us c.args.index) (sym c.requires.lists.1) ∙ at) begun in
    let same = c.in-Ok.ensures.needs in
    let after = ap (λ (t : Table g.row.F.Denot). t.states) c.answer-2.ensures ∙ ap (λ u. slice_set c.args.flight.now.states u (Answered c.in-Ok.answer)) (item_is c.args.flying.now c.args.index unit at) ∙ ap (λ ss. slice_set ss unit (Answered c.in-Ok.answer)) states in (
      c.in-Ok.answer,
      c.tell.ensures.table.1 ∙ after,
      c.in-Ok-tell.ensures.story first first_place first_out es unit c.in-Ok.answer
          (subst (λ n. g.C.Executor.story first first_place first_out c.answer.new.self c.answer.new.place c.answer.new.out (Gave unit c.in-Ok.answer ∷ es) n) (ap (λ (t : Table g.row.F.Denot). t.given) (sym c.answer-2.ensures)) told)
          (subst (λ ns. IsLawful ns (Gave unit c.in-Ok.answer ∷ es)) (sym same) (events.answer es unit c.in-Ok.answer lawful begun tt))
          (ap (λ (t : Table g.row.F.Denot). t.given) c.answer-2.ensures ∙ due ∙ ap (λ ns. count_due (states_after ns es)) (sym same))
          (after ∙ ap (λ ns. states_after ns (Gave unit c.in-Ok.answer ∷ es)) (sym same)),
    )

pub returns-in-Err-tell-clause-story : goal.returns-in-Err-tell-clause-story
returns-in-Err-tell-clause-story g c = λ first first_place first_out es unit story flying lawful due states at.
    let begun = has_begun c.args.flight.now.states (g.C.Executor.needs c.args.crew.now) es c.args.flying.now c.args.index unit lawful states (c.requires.lists.1 ∙ flying) at in
    let told = c.in-Ok.ensures.story first first_place first_out es c.args.flight.now.given unit story flying lawful due (ap (λ us. slice_get us c.args.index) (sym c.requires.lists.1) ∙ at) begun in
    let same = c.in-Ok.ensures.needs in
    let after = ap (λ (t : Table g.row.F.Denot). t.states) c.answer-2.ensures ∙ ap (λ u. slice_set c.args.flight.now.states u (Answered c.in-Ok.answer)) (item_is c.args.flying.now c.args.index unit at) ∙ ap (λ ss. slice_set ss unit (Answered c.in-Ok.answer)) states in inr (
      c.in-Ok.answer,
      c.in-Err-tell.ensures.story first first_place first_out es unit c.in-Ok.answer
          (subst (λ n. g.C.Executor.story first first_place first_out c.answer.new.self c.answer.new.place c.answer.new.out (Gave unit c.in-Ok.answer ∷ es) n) (ap (λ (t : Table g.row.F.Denot). t.given) (sym c.answer-2.ensures)) told)
          (subst (λ ns. IsLawful ns (Gave unit c.in-Ok.answer ∷ es)) (sym same) (events.answer es unit c.in-Ok.answer lawful begun tt))
          (ap (λ (t : Table g.row.F.Denot). t.given) c.answer-2.ensures ∙ due ∙ ap (λ ns. count_due (states_after ns es)) (sym same))
          (after ∙ ap (λ ns. states_after ns (Gave unit c.in-Ok.answer ∷ es)) (sym same)),
    )
