use Rattle.std.proofs.Common.{ap, ◌∙◌}
use Rattle.std.specs.List.{list_all}
use Rattle.pb_place_types.specs.Paths.{is_path, is_below}
use Rattle.pb_place_types.proofs.MapLemmas.{all_keys}
use Rattle.pb_place_types.proofs.files.FileMap.list.Goals as goal

pub paths_of-requires : goal.paths_of-requires
paths_of-requires c = ap (list_all is_path) c.in_ok-names.ensures.part ∙ all_keys is_path (is_below c.as_str.result.now) c.self.inside.inside.entries c.self.invariant
