use Rattle.std.proofs.Common.{◌≡◌, length}
use Rattle.pb_profile_keys.specs.Setting.{accepted}
use Rattle.pb_profile_keys.specs.First.{first_some}
use Rattle.pb_profile_keys.proofs.setting.meaning.Given as goal

-- what is left says the same
abbrev pub invariant-loop-left : goal.invariant-loop-left
invariant-loop-left l = first_some (accepted l.written) l.choices ≡ first_some (accepted l.written) l.left

abbrev pub decreases-loop-left : goal.decreases-loop-left
decreases-loop-left l = length l.left
