pub mod ListLemmas
pub mod LimitLemmas
pub mod NamingLemmas
pub mod NumberLemmas
pub mod WiringLemmas
pub mod DistinctLemmas
pub mod RuleLemmas
