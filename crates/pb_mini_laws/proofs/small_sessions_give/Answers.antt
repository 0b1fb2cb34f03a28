use Rattle.pb_build.proofs.Sparing.{any_build_gives, nothing_is_sound, records_stay_true}
use Rattle.pb_mini_laws.proofs.Honest.{small_sessions_give}
use Rattle.pb_mini_laws.proofs.SessionFiles.{session_files_give}
use Rattle.pb_mini_laws.proofs.small_sessions_give.Goals as goal

pub returns-clause-records : goal.returns-clause-records
returns-clause-records c = small_sessions_give any_build_gives

pub returns-clause-files : goal.returns-clause-files
returns-clause-files c = session_files_give records_stay_true nothing_is_sound
