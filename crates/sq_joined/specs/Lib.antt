pub mod Staying
pub mod Joining
