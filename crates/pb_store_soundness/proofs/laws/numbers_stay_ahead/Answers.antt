use Rattle.pb_store_soundness.proofs.Ahead.{stays_ahead, given_ahead, next_is_new}
use Rattle.pb_store_soundness.proofs.laws.numbers_stay_ahead.Goals as goal

pub returns : goal.returns
returns c = record {
  stays = stays_ahead;
  given = given_ahead;
  new = next_is_new;
}
