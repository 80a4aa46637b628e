pub mod Points
pub mod Limits
pub mod Losses
pub mod Above
