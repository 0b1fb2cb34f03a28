use Rattle.std.proofs.Common.{◌≡◌, ◌+◌, ◌-◌, map, length}
use Rattle.pb_profile.specs.Line.{seen, seen_at, line_within}
use Rattle.pb_profile.specs.Walking.{behind}
use Rattle.pb_profile.proofs.line.ancestors_of.Given as goal

-- the line is the profiles so far, and the rest of it
abbrev pub invariant-upward : goal.invariant-upward
invariant-upward l = line_within (length l.profiles + 2) l.profiles (seen_at l.profiles l.profile) ≡ behind (map seen l.line.items) (line_within (length l.profiles + 2 - l.counter) l.profiles (seen l.ancestor))
