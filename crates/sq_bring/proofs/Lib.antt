pub mod BringLemmas
pub mod CauseLemmas
