use Rattle.pb_place_types.proofs.TakenApart.{joins_again, found_inside, inside_is_relative, ends_with_last_part, last_part_is_name, lies_in_folder}
use Rattle.pb_place_types.proofs.laws.paths_join_again.Goals as goal

pub returns : goal.returns
returns c = record {
  again = joins_again;
  found = found_inside;
  relative = inside_is_relative;
  last = ends_with_last_part;
  name = last_part_is_name;
  folder = lies_in_folder;
}
