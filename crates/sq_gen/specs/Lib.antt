pub mod Files
pub mod Network
