pub mod OrderLemmas
pub mod EndLemmas
pub mod ToldLemmas
pub mod NamedLemmas
pub mod HistoryLemmas
pub mod RestLemmas
pub mod ReplayLemmas
pub mod ReadsLemmas
pub mod RunningLemmas
pub mod StopLemmas
pub mod SourceLemmas
pub mod TrainLemmas
pub mod SummaryLemmas
pub mod AuditLemmas
pub mod PartLemmas
pub mod ClassLemmas
pub mod HeadlineLemmas
mod Rows
