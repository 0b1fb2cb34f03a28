use Rattle.std.proofs.Common.{◌≡◌, length, take, drop}
use Rattle.toml.specs.View.{table_view}
use Rattle.pb_profile_keys.specs.Table.{keys}
use Rattle.pb_manifest.specs.Profiles.{settings_at}
use Rattle.pb_manifest.proofs.Settings.{behind}
use Rattle.pb_manifest.proofs.profile_values.profile_keys.Given as goal

-- the keys so far, and then the rest of them
abbrev pub invariant-loop-i : goal.invariant-loop-i
invariant-loop-i l = (length l.keys ≡ length keys) × (settings_at keys (table_view l.table) ≡ behind (take l.i l.keys) (settings_at (drop l.i keys) (table_view l.table)))
