pub mod Starts
pub mod Rows
