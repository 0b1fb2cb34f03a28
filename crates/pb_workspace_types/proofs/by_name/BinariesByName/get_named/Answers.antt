use Rattle.std.proofs.Common.{rules}
use Rattle.std.proofs.lemmas.Fn.{always_returns_same}
use Rattle.std.specs.Ordering.{nat_cmp}
use Rattle.std.specs.Cmp.Lexicographic.{slice_cmp}
use Rattle.pb_workspace_types.specs.declared.package.Binary.{Binary}
use Rattle.pb_workspace_types.proofs.Halving.{told_there, told_nowhere}
use Rattle.pb_workspace_types.proofs.by_name.BinariesByName.get_named.Goals as goal

pub returns-in-Ok : goal.returns-in-Ok
returns-in-Ok c =
    told_there (λ (x : Binary). x.name) c.args.self.now c.self.inside.inside c.as_slice-binaries.result.now c.args.name.now c.as_slice-binaries.ensures c.self.view_is c.self.invariant
    c.in-Ok.index c.index-binaries-index.result c.in-Ok.ensures.bound c.index-binaries-index.is
    (c.in-Ok.ensures.position (λ (x : Binary). slice_cmp nat_cmp x.name c.args.name.now) (always_returns_same _ _ _ (λ a r f called. search rules)))

pub returns-in-Err : goal.returns-in-Err
returns-in-Err c =
    told_nowhere (λ (x : Binary). x.name) c.args.self.now c.self.inside.inside c.as_slice-binaries.result.now c.args.name.now c.as_slice-binaries.ensures c.self.view_is c.self.invariant
    c.in-Err.field-0 (c.in-Err.ensures.position (λ (x : Binary). slice_cmp nat_cmp x.name c.args.name.now) (always_returns_same _ _ _ (λ a r f called. search rules)))
