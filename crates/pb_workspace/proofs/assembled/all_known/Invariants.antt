use Rattle.std.proofs.Common.{◌≡◌, drop}
use Rattle.std.specs.List.{list_all}
use Rattle.pb_workspace.specs.Assembled.{is_known}
use Rattle.pb_workspace.proofs.assembled.all_known.Given as goal

abbrev pub invariant-loop-text : goal.invariant-loop-text
invariant-loop-text l = list_all (is_known l.root l.packages) (drop l.text-index l.texts) ≡ list_all (is_known l.root l.packages) l.texts
