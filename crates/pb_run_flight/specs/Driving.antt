-- A flight whose steps a turn decides.
use Rattle.std.specs.Prelude.{◌≡◌, ℕ, List}
use Rattle.pb_run_flight.specs.declared.turn.Step.{Step}
use Rattle.pb_run_flight.specs.Table.{Table, count_due}
use Rattle.pb_run_flight.specs.Events.{Event, Anything, states_after, flying_after}
use Rattle.pb_run_flight.specs.Steps.{Flies, Anyhow}

-- The turn has decided the steps that produced these events. The table and the units in flight are
-- those after the events. All lines that are due have been handed out.
pub record IsFlown {F S : Type 0} (Turns : S → List ℕ → List ℕ → Step → S → Type 0) (needs : List (List ℕ)) (from : S) (es : List (Event F)) (now : S) (table : Table F) (flying : List ℕ) : Type 0 where
  pub flies : Flies Turns needs Anyhow Anything from es now
  pub needs_are : table.needs ≡ needs
  pub states_are : table.states ≡ states_after needs es
  pub flying_are : flying ≡ flying_after es
  pub given_are : table.given ≡ count_due table.states
