pub mod StreamLemmas
pub mod Lengths
mod StreamRows
