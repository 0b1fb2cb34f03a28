use Rattle.std.proofs.Common.{◌∙◌, ◌++◌, codes, if◌then◌else◌, Some, None, sym, ap}
use Rattle.pb_place_types.specs.Paths.{below}
use Rattle.pb_workspace_package.proofs.Listed.{bin-listed}
use Rattle.pb_workspace_package.proofs.listings.bin_source.Goals as goal

pub returns-then-not-is_in_bin : goal.returns-then-not-is_in_bin
returns-then-not-is_in_bin c sources are =
    sym (ap (λ b. if b then Some (below c.args.folder.now (codes "src/bin/" ++ c.args.rest.now)) else None) (sym (bin-listed c.args.folder.now c.args.rest.now _ sources c.args.listings.now are c.requires c.in_ok-path.ensures) ∙ sym c.is_in_bin.ensures ∙ c.if-not-is_in_bin.true))

pub returns : goal.returns
returns c sources are =
    ap Some c.in_ok-path.ensures
    ∙ sym (ap (λ b. if b then Some (below c.args.folder.now (codes "src/bin/" ++ c.args.rest.now)) else None) (sym (bin-listed c.args.folder.now c.args.rest.now _ sources c.args.listings.now are c.requires c.in_ok-path.ensures) ∙ sym c.is_in_bin.ensures ∙ c.if-not-is_in_bin.false))
