use Rattle.pb_mini.proofs.LineLemmas.{line_feed_cases}
use Rattle.pb_mini.proofs.lines.before_line_feed.Goals as goal

pub returns : goal.returns
returns c = line_feed_cases _ _ c.strip_suffix.ensures.cases
