mod Rows
pub mod Cycles
pub mod Givers
pub mod Finding
pub mod Reach
pub mod Placing
pub mod Bounded
pub mod Following
pub mod Streams
pub mod FirstCycle
pub mod Producers
pub mod OrderWords
