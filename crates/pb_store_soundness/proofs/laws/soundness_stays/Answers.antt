use Rattle.pb_store_soundness.proofs.Becoming.{stays_sound}
use Rattle.pb_store_soundness.proofs.Four.{outside, in_output, without_record, put}
use Rattle.pb_store_soundness.proofs.laws.soundness_stays.Goals as goal

pub returns : goal.returns
returns c = record {
  stays = stays_sound;
  outside = outside;
  in_output = in_output;
  without_record = without_record;
  put = put;
}
