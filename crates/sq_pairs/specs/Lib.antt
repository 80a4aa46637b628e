pub mod EqualPlaces
