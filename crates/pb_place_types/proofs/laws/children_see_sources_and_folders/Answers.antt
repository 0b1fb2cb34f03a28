use Rattle.pb_place_types.proofs.Folders.{sees_sources, sees_folders, sees_alike}
use Rattle.pb_place_types.proofs.laws.children_see_sources_and_folders.Goals as goal

pub returns : goal.returns
returns c = record { sources = sees_sources; folders = sees_folders; alike = sees_alike }
