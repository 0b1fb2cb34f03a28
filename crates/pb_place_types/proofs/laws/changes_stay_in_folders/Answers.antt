use Rattle.pb_place_types.proofs.Folders.{named_folders_lie_apart, folder_stays, sources_stayed, changes_join, changes_widen, stand_alone}
use Rattle.pb_place_types.proofs.laws.changes_stay_in_folders.Goals as goal

pub returns : goal.returns
returns c = record { named = named_folders_lie_apart; folders = folder_stays; sources = sources_stayed; join = changes_join; widen = changes_widen; alone = stand_alone }
