pub mod Limits
pub mod Naming
pub mod Windows
pub mod Streaming
pub mod Rules
