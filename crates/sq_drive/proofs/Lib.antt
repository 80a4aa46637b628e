pub mod DrivingLemmas
pub mod FailLemmas
pub mod LeftLemmas
pub mod OutcomeLemmas
pub mod StopLemmas
pub mod TurnLemmas
