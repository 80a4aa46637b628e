pub mod Steps
pub mod Streams
pub mod TimeText
pub mod Making
