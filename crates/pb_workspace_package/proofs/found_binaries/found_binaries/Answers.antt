use Rattle.std.proofs.Common.{◌∙◌, ◌++◌, ap, true, false}
use Rattle.std.specs.List.{filter_map}
use Rattle.pb_place_types.specs.World.{listed}
use Rattle.pb_workspace_package.specs.FoundBinaries.{bin_folder, binary_at, main_binary}
use Rattle.pb_workspace_package.proofs.Naming.{found_named}
use Rattle.pb_workspace_package.proofs.found_binaries.found_binaries.Goals as goal

pub returns-clause-ok : goal.returns-clause-ok
returns-clause-ok c sources are =
    c.in_ok-binaries.ensures
    ∙ ap (λ bin. filter_map (binary_at true bin) c.as_slice.result.now ++ (filter_map (binary_at false bin) c.as_slice.result.now ++ main_binary c.args.name.now c.in_ok-main.main)) c.in_ok-bin.ensures
    ∙ ap (λ paths. filter_map (binary_at true (bin_folder c.args.folder.now)) paths ++ (filter_map (binary_at false (bin_folder c.args.folder.now)) paths ++ main_binary c.args.name.now c.in_ok-main.main)) (c.as_slice.ensures ∙ are.in_bin)
    ∙ ap (λ main. filter_map (binary_at true (bin_folder c.args.folder.now)) (listed (bin_folder c.args.folder.now) sources) ++ (filter_map (binary_at false (bin_folder c.args.folder.now)) (listed (bin_folder c.args.folder.now) sources) ++ main_binary c.args.name.now main)) (c.in_ok-main.ensures sources are)

pub returns-clause-named : goal.returns-clause-named
returns-clause-named c = found_named _ c.args.name.now _ _ _ c.requires c.in_ok-binaries.ensures
