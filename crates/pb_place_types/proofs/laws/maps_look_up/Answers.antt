use Rattle.pb_place_types.proofs.Folders.{get-over, get-files_in, get-sources, get-seen}
use Rattle.pb_place_types.proofs.laws.maps_look_up.Goals as goal

pub returns : goal.returns
returns c = record { over = get-over; folder = get-files_in; sources = get-sources; seen = get-seen }
