use Rattle.std.proofs.Common.{◌∙◌, ap, map}
use Rattle.std.specs.List.{list_all}
use Rattle.pb_place_types.specs.Paths.{is_relative}
use Rattle.pb_workspace_package.specs.Between.{names_in}
use Rattle.pb_workspace.proofs.NamesOfPaths.{names_are_relative}
use Rattle.pb_workspace.proofs.member.start_of.Goals as goal

pub plain_parts-requires : goal.plain_parts-requires
plain_parts-requires c =
    ap (λ names. list_all is_relative (map (λ name. name.now) names)) c.as_slice.ensures.value
    ∙ ap (list_all is_relative) (c.in_ok-names.ensures ∙ ap names_in c.as_str.ensures.text) ∙ names_are_relative c.args.root.now c.as_str.ensures.normal
