use Rattle.std.proofs.Common.{◌≡◌, drop}
use Rattle.std.specs.List.{list_any}
use Rattle.pb_workspace.specs.Assembled.{is_meant_member, is_default}
use Rattle.pb_workspace.proofs.assembled.is_default.Given as goal

abbrev pub invariant-loop-text : goal.invariant-loop-text
invariant-loop-text l = list_any (is_meant_member l.root l.member) (drop l.text-index l.texts) ≡ is_default l.root l.texts l.member
