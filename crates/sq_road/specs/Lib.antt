pub mod Draws
pub mod Levels
pub mod Offers
pub mod Roads
