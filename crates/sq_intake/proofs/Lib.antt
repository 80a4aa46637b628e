pub mod ComeLemmas
pub mod IncomingLemmas
pub mod IntakeLemmas
pub mod PiecesLemmas
pub mod ToldLemmas
mod Rows
