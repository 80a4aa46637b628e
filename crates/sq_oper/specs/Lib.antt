pub mod Entries
pub mod Order
pub mod Outflow
pub mod Machine
pub mod Streams
pub mod Giving
pub mod Laws
