pub mod States
pub mod Writing
pub mod Due
pub mod Answers
pub mod Summaries
pub mod Counting
pub mod Histories
