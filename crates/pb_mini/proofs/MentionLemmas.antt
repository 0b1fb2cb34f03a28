-- Texts each once.
use Rattle.pb_data.proofs.MentionLemmas.{mentioned_all-once}

pub ruleset mention_laws = (mentioned_all-once)
