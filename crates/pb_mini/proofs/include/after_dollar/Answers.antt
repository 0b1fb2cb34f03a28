use Rattle.pb_mini.proofs.SlashLemmas.{dollar_cases}
use Rattle.pb_mini.proofs.include.after_dollar.Goals as goal

pub returns : goal.returns
returns c = dollar_cases _ _ c.strip_prefix.ensures.cases
