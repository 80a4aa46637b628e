pub mod Bounds
pub mod Sharing
pub mod Falls
pub mod Plannable
pub mod FirstLemmas
