pub mod Grids
pub mod Slices
pub mod Reaches
pub mod Bounds
pub mod Laws
pub mod Drops
