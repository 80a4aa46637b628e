pub mod KeyLemmas
pub mod IndexLemmas
pub mod TurnLemmas
pub mod JoinLemmas
pub mod ElementWords
mod PairRows
