pub mod Limits
pub mod Sources
pub mod Expressions
pub mod Functions
pub mod Columns
pub mod Outputs
pub mod Drops
pub mod Networks
