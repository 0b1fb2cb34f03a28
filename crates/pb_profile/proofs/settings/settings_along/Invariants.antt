use Rattle.std.proofs.Common.{◌≡◌, length, map, take}
use Rattle.pb_profile_keys.specs.Table.{keys}
use Rattle.pb_profile.specs.Line.{seen}
use Rattle.pb_profile.specs.Settings.{setting_of}
use Rattle.pb_profile.proofs.settings.settings_along.Given as goal

-- each key so far has its setting
abbrev pub invariant-loop-i : goal.invariant-loop-i
invariant-loop-i l = (length l.values ≡ length keys) × (take l.i l.values ≡ map (setting_of l.owner l.role (map seen l.line)) (take l.i keys))
