use Rattle.std.proofs.Common.{rules, subst}
use Rattle.std.specs.List.{flat_map}
use Rattle.pb_place_types.specs.declared.call.Call.TheVariants as call
use Rattle.pb_workspace_package.proofs.Looking.{Ends, ends_both, looks_first}
use Rattle.pb_workspace_package.specs.FoundBinaries.{bin_folder}
use Rattle.pb_workspace_package.specs.Looks.{looked, own_asked}
use Rattle.pb_workspace_package.specs.OwnFile.{own_files}
use Rattle.pb_workspace_package.proofs.listings.listings_of.Goals as goal

pub returns-in_err-own-clause-looks : goal.returns-in_err-own-clause-looks
returns-in_err-own-clause-looks g c =
    let h = looks_first c.in_err-own.field-0.0 (flat_map (own_asked c.args.target.now c.args.folder.now) own_files) (looked c.args.target.now (call.ListOutside (bin_folder c.args.folder.now) c.args.target.now)) (g.P.Place.at c.args.place.now).counts (g.P.Place.at c.files_there.new.place).counts c.in_err-own.ensures.outside c.in_err-own.ensures.looks in
    search (rules, h)

pub returns-in-Err-clause-looks : goal.returns-in-Err-clause-looks
returns-in-Err-clause-looks g c =
    ends_both c.in-Err.fault (flat_map (own_asked c.args.target.now c.args.folder.now) own_files) (looked c.args.target.now (call.ListOutside (bin_folder c.args.folder.now) c.args.target.now)) (g.P.Place.at c.args.place.now).counts (g.P.Place.at c.files_there.new.place).counts (g.P.Place.at c.listed_sources-in_bin.new.place).counts c.in_ok-own.ensures.looks
    (subst (λ p. Ends c.in-Err.fault (looked c.args.target.now (call.ListOutside p c.args.target.now)) (g.P.Place.at c.files_there.new.place).counts (g.P.Place.at c.listed_sources-in_bin.new.place).counts) c.in_ok-bin.ensures c.in-Err.ensures.looks)
