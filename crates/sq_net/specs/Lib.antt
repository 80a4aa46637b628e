pub mod Columns
pub mod Streams
pub mod Names
pub mod SoundNetworks
