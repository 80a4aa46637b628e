pub mod Plain
pub mod PlaceLemmas
