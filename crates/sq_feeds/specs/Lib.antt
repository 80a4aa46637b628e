pub mod Feeds
pub mod MemFeeds
