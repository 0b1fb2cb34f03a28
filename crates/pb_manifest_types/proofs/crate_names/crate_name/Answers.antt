use Rattle.std.proofs.Common.{rules, ◌∙◌}
use Rattle.pb_manifest_types.proofs.Dashes.{dash_step, dash_shorter, dash_last}
use Rattle.pb_manifest_types.proofs.crate_names.crate_name.Goals as goal

pub loop-part-preserved : goal.loop-part-preserved
loop-part-preserved c =
    (search rules, dash_step _ c.loop-part.left.now c.in-Some.part.now c.in-Some.rest.now _ _ _ c.loop-part.invariant.1 c.in-Some.ensures c.in_ok-push_str.ensures.bytes c.in_ok-push_str-2.ensures.bytes)

pub loop-part-smaller : goal.loop-part-smaller
loop-part-smaller c = dash_shorter c.loop-part.left.now c.in-Some.part.now c.in-Some.rest.now c.in-Some.ensures

pub returns : goal.returns
returns c = c.new.ensures ∙ dash_last _ c.loop-part.left.now _ _ c.loop-part.invariant.1 (search rules) c.in_ok-push_str-3.ensures.bytes
