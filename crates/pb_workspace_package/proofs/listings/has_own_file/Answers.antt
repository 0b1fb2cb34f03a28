use Rattle.std.proofs.Common.{◌∙◌, ap}
use Rattle.std.specs.List.{list_any}
use denote.Enum.Bare.{sameb}
use Rattle.pb_workspace_package.specs.contracts.own_file.OwnFile.{the_type}
use Rattle.pb_workspace_package.specs.Listings.{is_there}
use Rattle.pb_workspace_package.proofs.OwnFiles.{own_kept}
use Rattle.pb_workspace_package.proofs.listings.has_own_file.Goals as goal

pub returns : goal.returns
returns c folder sources are =
    c.contains.ensures.value ∙ ap (list_any (λ other. sameb the_type other c.args.file)) (c.as_slice.ensures ∙ are.own) ∙ own_kept (is_there folder sources) c.args.file
