pub mod GridLemmas
pub mod SliceLemmas
pub mod WindowSteps
pub mod PairSteps
pub mod SortSteps
pub mod ReachLemmas
pub mod BoxSteps
pub mod OvertakenLemmas
pub mod ZoneLemmas
pub mod RunLemmas
pub mod NetworkSteps
pub mod WholeLemmas
pub mod FollowLemmas
pub mod BoundLemmas
pub mod DropLemmas
pub mod PlanLemmas
pub mod ShowLemmas
mod SliceRows
mod DropRows
