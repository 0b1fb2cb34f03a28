use Rattle.std.proofs.Common.{◌≡◌, drop, map}
use Rattle.std.specs.List.{fold}
use Rattle.pb_workspace.specs.Members.{further, parts_meant}
use Rattle.pb_workspace.proofs.member.parts_meant.Given as goal

abbrev pub invariant-loop-part : goal.invariant-loop-part
invariant-loop-part l = fold further l.parts.items (map (λ part. part.now) (drop l.part-index l.part-items)) ≡ parts_meant l.root l.text
