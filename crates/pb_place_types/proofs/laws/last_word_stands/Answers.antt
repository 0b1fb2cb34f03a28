use Rattle.pb_place_types.proofs.Changes.{last_word_stands, variables_stand}
use Rattle.pb_place_types.proofs.laws.last_word_stands.Goals as goal

pub returns : goal.returns
returns c = record { files = last_word_stands; variables = variables_stand }
