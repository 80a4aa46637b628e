pub mod FeedLemmas
pub mod MemFeedLemmas
mod FeedRows
