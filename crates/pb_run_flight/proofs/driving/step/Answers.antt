use Rattle.std.proofs.Common.{◌∙◌, ◌<◌, ◌∷◌, true, None, refl, sym, ap, subst, slice_get, slice_set, length}
use Rattle.std.specs.Prelude.{slice_index_or}
use Rattle.pb_run_flight.specs.declared.flight.State.TheVariants.{Answered}
use Rattle.std.proofs.lemmas.Option.{slice_get-get_or, slice_get_read}
use Rattle.pb_run_flight.specs.Events.{Began, Gave}
use Rattle.pb_run_flight.specs.Table.{Table, count_due}
use Rattle.pb_run_flight.proofs.Driven.{lawful, after, some_step, flies_begun, flown_begun, flown_answered, less_begun, less_answered, stopped_at}
use Rattle.pb_run_flight.proofs.driving.step.Goals as goal

pub turn-requires : goal.turn-requires
turn-requires g c =
    let (from, es, flown) = c.requires.flown in
    record { some = some_step g.T.Turn.turns (g.C.Executor.needs c.args.crew.now) from es c.args.turn.now c.args.turn.now c.args.flight.now (g.C.Executor.flying c.args.crew.now) flown c.as_slice.result.now c.as_slice-2.result.now c.requires.order c.requires.left (c.as_slice.ensures.value ∙ c.in-Ok.ensures) (c.as_slice-2.ensures.value ∙ c.in-Ok-in_flight.ensures) }

pub begin_one-requires-clause-flown : goal.begin_one-requires-clause-flown
begin_one-requires-clause-flown g c =
    let (from, es, flown) = c.requires.flown in
    after g.T.Turn.turns (g.C.Executor.needs c.args.crew.now) from es c.args.turn.now c.args.turn.now c.args.flight.now (g.C.Executor.flying c.args.crew.now) flown

pub returns-in-Ok-begin_one-clause-less : goal.returns-in-Ok-begin_one-clause-less
returns-in-Ok-begin_one-clause-less g c =
    let (from, es, flown) = c.requires.flown in
    let at = ap (λ xs. slice_get xs c.in-Begin.index) c.as_slice.ensures.value ∙ slice_get_read c.in-Ok.ready.items (length c.in-Ok.ready.items) c.in-Begin.index c.index-unit.result.now refl (subst (λ xs. c.in-Begin.index < length xs) c.as_slice.ensures.value c.in-Begin.ensures.within) c.index-unit.ensures in
    less_begun g.T.Turn.turns (g.C.Executor.needs c.args.crew.now) from es c.args.turn.now c.turn.new.self c.args.flight.now (g.C.Executor.flying c.args.crew.now) flown c.as_slice.result.now c.as_slice-2.result.now c.requires.left (c.as_slice.ensures.value ∙ c.in-Ok.ensures) (c.as_slice-2.ensures.value ∙ c.in-Ok-in_flight.ensures)
    c.in-Begin.index c.index-unit.result.now c.begin_one.new.flight at c.begin_one.ensures.table

pub returns-in-Ok-begin_one-clause-goes : goal.returns-in-Ok-begin_one-clause-goes
returns-in-Ok-begin_one-clause-goes g c = λ from first first_place first_out es flown story.
    let at = ap (λ xs. slice_get xs c.in-Begin.index) c.as_slice.ensures.value ∙ slice_get_read c.in-Ok.ready.items (length c.in-Ok.ready.items) c.in-Begin.index c.index-unit.result.now refl (subst (λ xs. c.in-Begin.index < length xs) c.as_slice.ensures.value c.in-Begin.ensures.within) c.index-unit.ensures in
    let (spawned, told) = c.in-Ok-begin_one.ensures.story first first_place first_out es c.args.flight.now.given story flown.flying_are (lawful g.T.Turn.turns (g.C.Executor.needs c.args.crew.now) from es c.args.turn.now c.turn.new.self c.args.flight.now (g.C.Executor.flying c.args.crew.now) flown) (flown.given_are ∙ ap count_due flown.states_are) flown.states_are in (
      Began c.index-unit.result.now spawned ∷ es,
      flown_begun g.T.Turn.turns (g.C.Executor.needs c.args.crew.now) from es c.args.turn.now c.turn.new.self c.args.flight.now (g.C.Executor.flying c.args.crew.now) flown c.as_slice.result.now c.as_slice-2.result.now c.requires.left (c.as_slice.ensures.value ∙ c.in-Ok.ensures) (c.as_slice-2.ensures.value ∙ c.in-Ok-in_flight.ensures)
          c.in-Begin.index c.index-unit.result.now spawned c.begin_one.new.flight (g.C.Executor.flying c.begin_one.new.crew) c.in-Begin.ensures.turned at c.begin_one.ensures.table c.in-Ok-begin_one.ensures.flying,
      subst (λ n. g.C.Executor.story first first_place first_out c.begin_one.new.crew c.begin_one.new.place c.begin_one.new.out (Began c.index-unit.result.now spawned ∷ es) n) (ap (λ (t : Table g.row.F.Denot). t.given) (sym c.begin_one.ensures.table)) told,
    )

pub returns-in-Ok-begin_one-clause-flown : goal.returns-in-Ok-begin_one-clause-flown
returns-in-Ok-begin_one-clause-flown g c = λ from es flown.
    let at = ap (λ xs. slice_get xs c.in-Begin.index) c.as_slice.ensures.value ∙ slice_get_read c.in-Ok.ready.items (length c.in-Ok.ready.items) c.in-Begin.index c.index-unit.result.now refl (subst (λ xs. c.in-Begin.index < length xs) c.as_slice.ensures.value c.in-Begin.ensures.within) c.index-unit.ensures in (
      Began c.index-unit.result.now true ∷ es,
      flown_begun g.T.Turn.turns (g.C.Executor.needs c.args.crew.now) from es c.args.turn.now c.turn.new.self c.args.flight.now (g.C.Executor.flying c.args.crew.now) flown c.as_slice.result.now c.as_slice-2.result.now c.requires.left (c.as_slice.ensures.value ∙ c.in-Ok.ensures) (c.as_slice-2.ensures.value ∙ c.in-Ok-in_flight.ensures)
          c.in-Begin.index c.index-unit.result.now true c.begin_one.new.flight (g.C.Executor.flying c.begin_one.new.crew) c.in-Begin.ensures.turned at c.begin_one.ensures.table c.in-Ok-begin_one.ensures.flying,
    )

pub returns-in-Begin-clause-goes : goal.returns-in-Begin-clause-goes
returns-in-Begin-clause-goes g c = λ from first first_place first_out es flown story.
    let at = ap (λ xs. slice_get xs c.in-Begin.index) c.as_slice.ensures.value ∙ slice_get_read c.in-Ok.ready.items (length c.in-Ok.ready.items) c.in-Begin.index c.index-unit.result.now refl (subst (λ xs. c.in-Begin.index < length xs) c.as_slice.ensures.value c.in-Begin.ensures.within) c.index-unit.ensures in
    let (spawned, told) = c.in-Err-begin_one.ensures.story first first_place first_out es c.args.flight.now.given story flown.flying_are (lawful g.T.Turn.turns (g.C.Executor.needs c.args.crew.now) from es c.args.turn.now c.turn.new.self c.args.flight.now (g.C.Executor.flying c.args.crew.now) flown) (flown.given_are ∙ ap count_due flown.states_are) flown.states_are in (
      c.turn.new.self,
      Began c.index-unit.result.now spawned ∷ es,
      None,
      flies_begun g.T.Turn.turns (g.C.Executor.needs c.args.crew.now) from es c.args.turn.now c.turn.new.self c.args.flight.now (g.C.Executor.flying c.args.crew.now) flown c.as_slice.result.now c.as_slice-2.result.now c.requires.left (c.as_slice.ensures.value ∙ c.in-Ok.ensures) (c.as_slice-2.ensures.value ∙ c.in-Ok-in_flight.ensures)
          c.in-Begin.index c.index-unit.result.now spawned c.in-Begin.ensures.turned at,
      refl,
      told,
    )

pub answer_one-requires-clause-flown : goal.answer_one-requires-clause-flown
answer_one-requires-clause-flown g c =
    let (from, es, flown) = c.requires.flown in
    after g.T.Turn.turns (g.C.Executor.needs c.args.crew.now) from es c.args.turn.now c.args.turn.now c.args.flight.now (g.C.Executor.flying c.args.crew.now) flown

pub returns-in-Ok-answer_one-clause-less : goal.returns-in-Ok-answer_one-clause-less
returns-in-Ok-answer_one-clause-less g c =
    let (from, es, flown) = c.requires.flown in
    let at = slice_get-get_or c.as_slice-2.result.now c.in-Answer.index 0 c.in-Answer.ensures.within in
    let (given, needs, states) = c.in-Ok-answer_one.ensures.table (slice_index_or c.as_slice-2.result.now c.in-Answer.index 0) (ap (λ xs. slice_get xs c.in-Answer.index) (c.as_slice-in-Answer.ensures.value ∙ sym c.as_slice-2.ensures.value) ∙ at) in
    less_answered g.T.Turn.turns (g.C.Executor.needs c.args.crew.now) from es c.args.turn.now c.turn.new.self c.args.flight.now (g.C.Executor.flying c.args.crew.now) flown c.as_slice.result.now c.as_slice-2.result.now c.requires.left (c.as_slice.ensures.value ∙ c.in-Ok.ensures) (c.as_slice-2.ensures.value ∙ c.in-Ok-in_flight.ensures)
    c.in-Answer.index (slice_index_or c.as_slice-2.result.now c.in-Answer.index 0) given c.answer_one.new.flight at states

pub returns-in-Ok-answer_one-clause-goes : goal.returns-in-Ok-answer_one-clause-goes
returns-in-Ok-answer_one-clause-goes g c = λ from first first_place first_out es flown story.
    let at = slice_get-get_or c.as_slice-2.result.now c.in-Answer.index 0 c.in-Answer.ensures.within in
    let unit = slice_index_or c.as_slice-2.result.now c.in-Answer.index 0 in
    let there = ap (λ xs. slice_get xs c.in-Answer.index) (c.as_slice-in-Answer.ensures.value ∙ sym c.as_slice-2.ensures.value) ∙ at in
    let (given, states, told) = c.in-Ok-answer_one.ensures.story first first_place first_out es unit story flown.flying_are (lawful g.T.Turn.turns (g.C.Executor.needs c.args.crew.now) from es c.args.turn.now c.turn.new.self c.args.flight.now (g.C.Executor.flying c.args.crew.now) flown) (flown.given_are ∙ ap count_due flown.states_are) flown.states_are there in
    let (one, needs, table) = c.in-Ok-answer_one.ensures.table unit there in (
      Gave unit given ∷ es,
      flown_answered g.T.Turn.turns (g.C.Executor.needs c.args.crew.now) from es c.args.turn.now c.turn.new.self c.args.flight.now (g.C.Executor.flying c.args.crew.now) flown c.as_slice.result.now c.as_slice-2.result.now c.requires.left (c.as_slice.ensures.value ∙ c.in-Ok.ensures) (c.as_slice-2.ensures.value ∙ c.in-Ok-in_flight.ensures)
          c.in-Answer.index unit given c.answer_one.new.flight (g.C.Executor.flying c.answer_one.new.crew) c.in-Ok-answer_one.ensures.given c.in-Answer.ensures.turned at needs (states ∙ ap (λ ss. slice_set ss unit (Answered given)) (sym flown.states_are)) c.answer_one.ensures.flying,
      told,
    )

pub returns-in-Ok-answer_one-clause-flown : goal.returns-in-Ok-answer_one-clause-flown
returns-in-Ok-answer_one-clause-flown g c = λ from es flown.
    let at = slice_get-get_or c.as_slice-2.result.now c.in-Answer.index 0 c.in-Answer.ensures.within in
    let unit = slice_index_or c.as_slice-2.result.now c.in-Answer.index 0 in
    let (given, needs, states) = c.in-Ok-answer_one.ensures.table unit (ap (λ xs. slice_get xs c.in-Answer.index) (c.as_slice-in-Answer.ensures.value ∙ sym c.as_slice-2.ensures.value) ∙ at) in (
      Gave unit given ∷ es,
      flown_answered g.T.Turn.turns (g.C.Executor.needs c.args.crew.now) from es c.args.turn.now c.turn.new.self c.args.flight.now (g.C.Executor.flying c.args.crew.now) flown c.as_slice.result.now c.as_slice-2.result.now c.requires.left (c.as_slice.ensures.value ∙ c.in-Ok.ensures) (c.as_slice-2.ensures.value ∙ c.in-Ok-in_flight.ensures)
          c.in-Answer.index unit given c.answer_one.new.flight (g.C.Executor.flying c.answer_one.new.crew) c.in-Ok-answer_one.ensures.given c.in-Answer.ensures.turned at needs states c.answer_one.ensures.flying,
    )

pub returns-clause-goes : goal.returns-clause-goes
returns-clause-goes g c = λ from first first_place first_out es flown story.
    let at = slice_get-get_or c.as_slice-2.result.now c.in-Answer.index 0 c.in-Answer.ensures.within in
    let unit = slice_index_or c.as_slice-2.result.now c.in-Answer.index 0 in
    let there = ap (λ xs. slice_get xs c.in-Answer.index) (c.as_slice-in-Answer.ensures.value ∙ sym c.as_slice-2.ensures.value) ∙ at in
    let told = c.in-Err-answer_one.ensures.story first first_place first_out es unit story flown.flying_are (lawful g.T.Turn.turns (g.C.Executor.needs c.args.crew.now) from es c.args.turn.now c.turn.new.self c.args.flight.now (g.C.Executor.flying c.args.crew.now) flown) (flown.given_are ∙ ap count_due flown.states_are) flown.states_are there in
    stopped_at g.T.Turn.turns (g.C.Executor.needs c.args.crew.now) from es c.args.turn.now c.turn.new.self c.args.flight.now (g.C.Executor.flying c.args.crew.now) flown c.as_slice.result.now c.as_slice-2.result.now c.requires.left (c.as_slice.ensures.value ∙ c.in-Ok.ensures) (c.as_slice-2.ensures.value ∙ c.in-Ok-in_flight.ensures)
    c.in-Answer.index unit c.in-Answer.ensures.turned at (λ asked more. g.C.Executor.stops c.in-Err-answer_one.fault asked first first_place first_out c.answer_one.new.crew c.answer_one.new.place c.answer_one.new.out more) told
