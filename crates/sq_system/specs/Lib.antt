pub mod ByteFiles
pub mod Spills
pub mod OpenFeeds
