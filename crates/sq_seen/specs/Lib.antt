pub mod Numbers
pub mod Reaches
