use Rattle.std.proofs.Common.{◌≡◌, IfOk, subst}
use Rattle.std.specs.List.{filter_map}
use Rattle.pb_workspace_package.specs.declared.unresolved_package.UnresolvedPackage.{UnresolvedPackage}
use Rattle.pb_workspace_package.specs.Settling.{comes_again}
use Rattle.pb_workspace.proofs.checks.links_twice.Goals as goal

pub returns : goal.returns
returns c = subst (λ seen. IfOk c.links_come_again-again.result (λ again. again ≡ comes_again seen (filter_map (λ (d : UnresolvedPackage). d.links) c.args.drafts.now))) c.new-seen.ensures c.links_come_again-again.ensures
