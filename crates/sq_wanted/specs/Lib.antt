pub mod Showing
pub mod Places
