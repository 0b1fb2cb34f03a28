use Rattle.std.proofs.Common.{rules}
use Rattle.std.proofs.lemmas.Fn.{always_returns_same}
use Rattle.std.specs.Ordering.{nat_cmp}
use Rattle.std.specs.Cmp.Lexicographic.{slice_cmp}
use Rattle.pb_workspace_types.specs.declared.package.Entry.{Entry}
use Rattle.pb_workspace_types.specs.ByKey.{table_key}
use Rattle.pb_workspace_types.proofs.Halving.{index_there, index_nowhere}
use Rattle.pb_workspace_types.proofs.by_key.EntriesByKey.index_of.Goals as goal

pub returns-in-Ok-clause-index : goal.returns-in-Ok-clause-index
returns-in-Ok-clause-index c =
    index_there (λ (x : Entry). table_key x.kind x.key) c.args.self.now c.self.inside.inside c.as_slice-entries.result.now (table_key c.args.kind c.args.key.now) c.as_slice-entries.ensures c.self.view_is c.self.invariant
    c.in-Ok.index c.in-Ok.ensures.bound
    (c.in-Ok.ensures.position (λ (x : Entry). slice_cmp nat_cmp (table_key x.kind x.key) (table_key c.args.kind c.args.key.now)) (always_returns_same _ _ _ (λ a r f called. search rules)))

pub returns-in-Err-clause-index : goal.returns-in-Err-clause-index
returns-in-Err-clause-index c =
    index_nowhere (λ (x : Entry). table_key x.kind x.key) c.args.self.now c.self.inside.inside c.as_slice-entries.result.now (table_key c.args.kind c.args.key.now) c.as_slice-entries.ensures c.self.view_is c.self.invariant
    c.in-Err.field-0 (c.in-Err.ensures.position (λ (x : Entry). slice_cmp nat_cmp (table_key x.kind x.key) (table_key c.args.kind c.args.key.now)) (always_returns_same _ _ _ (λ a r f called. search rules)))
