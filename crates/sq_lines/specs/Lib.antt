pub mod LineTexts
pub mod Classes
pub mod Rows
pub mod RunLines
pub mod Writers
