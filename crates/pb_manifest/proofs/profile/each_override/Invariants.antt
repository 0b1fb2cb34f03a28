use Rattle.std.proofs.Common.{◌≡◌, ◌++◌, Ok}
use Rattle.toml.specs.View.{members_view, table_view}
use Rattle.pb_data.specs.UnlessOom.{◌>>=◌}
use Rattle.pb_manifest.specs.Values.{each_entry}
use Rattle.pb_manifest.specs.Profiles.{override_of}
use Rattle.pb_manifest.proofs.profile.each_override.Given as goal

abbrev pub invariant-loop-name : goal.invariant-loop-name
invariant-loop-name l = (each_entry override_of (members_view l.name-iterator) >>= (λ rest. Ok (l.overrides ++ rest))) ≡ each_entry override_of (table_view l.table)
