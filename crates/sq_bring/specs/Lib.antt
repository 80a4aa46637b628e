pub mod Bringing
