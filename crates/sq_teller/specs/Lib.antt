pub mod Boxes
pub mod Replies
pub mod Messages
pub mod Ends
