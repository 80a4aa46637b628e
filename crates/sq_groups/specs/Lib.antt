pub mod KeyWrites
pub mod Ordered
pub mod Lends
pub mod KeyValues
