use Rattle.std.proofs.Common.{◌≡◌, ◌++◌, Ok}
use Rattle.toml.specs.View.{members_view, table_view}
use Rattle.pb_data.specs.UnlessOom.{◌>>=◌}
use Rattle.pb_manifest.specs.Values.{each_entry}
use Rattle.pb_manifest.specs.Profiles.{profile_of}
use Rattle.pb_manifest.proofs.profile.each_profile.Given as goal

abbrev pub invariant-loop-name : goal.invariant-loop-name
invariant-loop-name l = (each_entry profile_of (members_view l.name-iterator) >>= (λ rest. Ok (l.profiles ++ rest))) ≡ each_entry profile_of (table_view l.table)
