use Rattle.std.proofs.Common.{◌∙◌, sym, ap}
use Rattle.std.specs.FinMap.{get}
use Rattle.pb_place_types.specs.Paths.{is_path}
use Rattle.pb_place_types.specs.World.{Map}
use Rattle.pb_place_types.proofs.MapLemmas.{get-lookup}
use Rattle.pb_place_types.proofs.Worlds.{found_passes}
use Rattle.pb_place_types.proofs.files.FileMap.have_paths.Goals as goal

pub returns : goal.returns
returns c path bytes is = found_passes is_path c.self.inside.inside.entries path bytes c.self.invariant (sym (get-lookup c.self.inside.inside.entries path) ∙ ap (λ (m : Map). get m path) c.self.view_is ∙ is)
