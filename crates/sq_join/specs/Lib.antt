pub mod Codes
pub mod EqualFields
pub mod Elements
pub mod Sides
pub mod Indexes
