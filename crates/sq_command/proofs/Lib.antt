pub mod Rows
pub mod WordLemmas
