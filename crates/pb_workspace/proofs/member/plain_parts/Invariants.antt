use Rattle.std.proofs.Common.{◌≡◌, ◌++◌, drop, map}
use Rattle.pb_workspace.specs.Members.{plain_parts}
use Rattle.pb_workspace.proofs.member.plain_parts.Given as goal

abbrev pub invariant-loop-name : goal.invariant-loop-name
invariant-loop-name l = l.parts.items ++ plain_parts (map (λ name. name.now) (drop l.name-index l.names)) ≡ plain_parts (map (λ name. name.now) l.names)
