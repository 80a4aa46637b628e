pub mod StatusKinds
pub mod Messages
