mod KeyLemmas
pub mod OrderLemmas
