use Rattle.pb_directive.proofs.RuleLemmas.{backslash_cases}
use Rattle.pb_directive.proofs.rules.before_backslash.Goals as goal

pub returns : goal.returns
returns c = backslash_cases _ _ c.strip_suffix.ensures.cases
