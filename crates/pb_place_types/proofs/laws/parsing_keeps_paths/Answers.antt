use Rattle.pb_place_types.proofs.PathLemmas.{parsed_path}
use Rattle.pb_place_types.proofs.laws.parsing_keeps_paths.Goals as goal

pub returns : goal.returns
returns c = parsed_path
