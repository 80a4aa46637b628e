pub mod Words
pub mod Keys
pub mod Lines
pub mod Answers
pub mod Ends
