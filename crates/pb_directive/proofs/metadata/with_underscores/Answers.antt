use Rattle.std.proofs.Common.{rules}
use Rattle.pb_directive.proofs.MetadataLemmas.{underscored_step, underscored_last}
use Rattle.pb_directive.proofs.metadata.with_underscores.Goals as goal

pub loop-part-preserved : goal.loop-part-preserved
loop-part-preserved c =
    (search rules, underscored_step _ c.loop-part.left.now c.in-Some.part.now c.in-Some.rest.now _ _ _ c.loop-part.invariant.1 c.in-Some.ensures c.in_ok-push_str.ensures.bytes c.in_ok-push_str-2.ensures.bytes)

pub returns : goal.returns
returns c = underscored_last _ c.loop-part.left.now _ _ c.loop-part.invariant.1 (search rules) c.in_ok-push_str-3.ensures.bytes
