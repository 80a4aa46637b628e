pub mod Documents
pub mod Readings
pub mod Refusals
pub mod Places
pub mod Shapes
pub mod ShapeViews
pub mod Tables
