use Rattle.std.proofs.Common.{rules}
use Rattle.std.proofs.lemmas.Fn.{always_returns_same}
use Rattle.std.specs.Ordering.{nat_cmp}
use Rattle.std.specs.Cmp.Lexicographic.{slice_cmp}
use Rattle.pb_manifest_types.specs.declared.dependency.WorkspaceDependency.{WorkspaceDependency}
use Rattle.pb_workspace_types.proofs.Halving.{told_there, told_nowhere}
use Rattle.pb_workspace_package.proofs.by_key.SharedByKey.entry_of.Goals as goal

pub returns-in-Ok : goal.returns-in-Ok
returns-in-Ok c =
    told_there (λ (x : WorkspaceDependency). x.key) c.args.self.now c.self.inside.inside c.as_slice-entries.result.now c.args.key.now c.as_slice-entries.ensures c.self.view_is c.self.invariant
    c.in-Ok.place c.index-entries-place.result c.in-Ok.ensures.bound c.index-entries-place.is
    (c.in-Ok.ensures.position (λ (x : WorkspaceDependency). slice_cmp nat_cmp x.key c.args.key.now) (always_returns_same _ _ _ (λ a r f called. search rules)))

pub returns-in-Err : goal.returns-in-Err
returns-in-Err c =
    told_nowhere (λ (x : WorkspaceDependency). x.key) c.args.self.now c.self.inside.inside c.as_slice-entries.result.now c.args.key.now c.as_slice-entries.ensures c.self.view_is c.self.invariant
    c.in-Err.field-0 (c.in-Err.ensures.position (λ (x : WorkspaceDependency). slice_cmp nat_cmp x.key c.args.key.now) (always_returns_same _ _ _ (λ a r f called. search rules)))
