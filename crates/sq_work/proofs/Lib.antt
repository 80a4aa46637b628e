pub mod AuditLemmas
pub mod JoinLemmas
pub mod MadeLemmas
pub mod ReadsLemmas
pub mod Rows
pub mod SourceLemmas
pub mod StoppedLemmas
pub mod TapLemmas
