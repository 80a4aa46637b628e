pub mod Things
pub mod SoundItems
pub mod Words
