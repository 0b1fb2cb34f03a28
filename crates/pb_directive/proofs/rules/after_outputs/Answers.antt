use Rattle.std.proofs.Common.{◌∙◌, sym, rules}
use Rattle.pb_directive.proofs.RuleLemmas.{outputs_found, outputs_next}
use Rattle.pb_directive.proofs.rules.after_outputs.Goals as goal

pub returns-then-ends_outputs : goal.returns-then-ends_outputs
returns-then-ends_outputs c =
    sym (outputs_found c.loop-rest.left.now _ c.in-Some.rest.now c.in-Some.ensures (search rules)) ∙ c.loop-rest.invariant.1

pub loop-rest-preserved : goal.loop-rest-preserved
loop-rest-preserved c =
    (search rules, sym (outputs_next c.loop-rest.left.now _ c.in-Some.rest.now c.in-Some.ensures (search rules)) ∙ c.loop-rest.invariant.1)
