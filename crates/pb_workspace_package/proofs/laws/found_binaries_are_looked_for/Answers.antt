use Rattle.pb_workspace_package.proofs.FoundSources.{found_as_looked_for}
use Rattle.pb_workspace_package.proofs.laws.found_binaries_are_looked_for.Goals as goal

pub returns : goal.returns
returns c = found_as_looked_for
