use Rattle.std.proofs.Common.{◌≡◌, length, map}
use Rattle.pb_profile.specs.Line.{seen}
use Rattle.pb_profile.specs.Locations.{sought}
use Rattle.pb_profile.specs.Settings.{along}
use Rattle.pb_profile.proofs.locations.along.Given as goal

-- what is left has the same value
abbrev pub invariant-loop-left : goal.invariant-loop-left
invariant-loop-left l = along l.key (sought l.location) (map seen l.line) ≡ along l.key (sought l.location) (map seen l.left)

abbrev pub decreases-loop-left : goal.decreases-loop-left
decreases-loop-left l = length l.left
