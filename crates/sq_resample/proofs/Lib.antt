pub mod PartLemmas
pub mod FedLemmas
