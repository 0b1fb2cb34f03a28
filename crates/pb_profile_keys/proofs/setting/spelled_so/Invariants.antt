use Rattle.std.proofs.Common.{◌≡◌, length}
use Rattle.pb_profile_keys.specs.Setting.{if_spelled}
use Rattle.pb_profile_keys.specs.First.{first_some}
use Rattle.pb_profile_keys.proofs.setting.spelled_so.Given as goal

abbrev pub invariant-loop-left : goal.invariant-loop-left
invariant-loop-left l = first_some (if_spelled l.text) l.words ≡ first_some (if_spelled l.text) l.left

abbrev pub decreases-loop-left : goal.decreases-loop-left
decreases-loop-left l = length l.left
