use Rattle.pb_workspace.specs.Checks.{has_other_version}
use Rattle.pb_workspace.proofs.Leading.{none_leads}
use Rattle.pb_workspace.proofs.checks.some_other_version.Goals as goal

pub loop-draft-preserved : goal.loop-draft-preserved
loop-draft-preserved c =
    none_leads has_other_version c.args.drafts.now c.loop-draft.draft-index c.draft-item.result c.as_slice.result.now c.one_other_version.result _ c.loop-draft-test.true c.draft-item.is c.as_slice.ensures c.one_other_version.ensures c.if-one_other_version.false c.loop-draft.invariant
