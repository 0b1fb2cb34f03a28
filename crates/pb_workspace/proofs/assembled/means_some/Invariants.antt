use Rattle.std.proofs.Common.{◌≡◌, drop}
use Rattle.std.specs.List.{list_any}
use Rattle.pb_workspace.specs.Assembled.{is_meant_member}
use Rattle.pb_workspace.proofs.assembled.means_some.Given as goal

abbrev pub invariant-loop-member : goal.invariant-loop-member
invariant-loop-member l = list_any (λ p. is_meant_member l.root p l.text) (drop l.member-index l.packages) ≡ list_any (λ p. is_meant_member l.root p l.text) l.packages
