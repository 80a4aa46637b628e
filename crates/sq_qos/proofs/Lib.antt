mod Rows
pub mod Short
pub mod Facts
pub mod Slopes
pub mod Falling
pub mod Losses
pub mod Exact
pub mod RatioWords
