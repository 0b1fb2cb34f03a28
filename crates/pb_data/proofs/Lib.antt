pub mod MentionLemmas
pub mod TableLemmas
pub mod Looking
pub mod NextLemmas
