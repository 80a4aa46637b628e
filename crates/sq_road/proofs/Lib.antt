pub mod Found
pub mod LevelLemmas
mod LevelRows
pub mod Made
pub mod Making
pub mod Parts
pub mod Plans
pub mod Prices
mod RoadRows
