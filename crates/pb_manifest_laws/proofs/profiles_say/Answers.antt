use Rattle.pb_manifest_laws.proofs.Profiles.{settings_read, profiles_read}
use Rattle.pb_manifest_laws.proofs.profiles_say.Goals as goal

pub returns : goal.returns
returns c = record { settings = settings_read; profiles = profiles_read }
