use Rattle.std.proofs.Common.{◌≡◌, map, length}
use Rattle.pb_workspace.specs.Members.{parts_match}
use Rattle.pb_workspace.proofs.member.parts_match.Given as goal

abbrev pub invariant-loop-left : goal.invariant-loop-left
invariant-loop-left l = parts_match l.left (map (λ name. name.now) l.to_match) ≡ parts_match l.parts (map (λ name. name.now) l.names)

abbrev pub decreases-loop-left : goal.decreases-loop-left
decreases-loop-left l = length l.left
