pub mod Incoming
pub mod Intakes
pub mod IncomingLaws
