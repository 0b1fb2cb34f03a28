use Rattle.std.proofs.Common.{◌≡◌, drop}
use Rattle.pb_workspace.specs.Members.{is_excluded}
use Rattle.pb_workspace.proofs.member.is_excluded.Given as goal

abbrev pub invariant-loop-text : goal.invariant-loop-text
invariant-loop-text l = is_excluded l.root (drop l.text-index l.exclude) l.folder ≡ is_excluded l.root l.exclude l.folder
