pub mod ToldLemmas
pub mod WordLemmas
mod KeysRows
