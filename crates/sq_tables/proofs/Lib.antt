pub mod DocumentLemmas
pub mod AmongLemmas
pub mod ShapedLemmas
pub mod EvenLemmas
pub mod BoxLemmas
pub mod Rows
