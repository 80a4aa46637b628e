pub mod Parts
pub mod ToldFolders
pub mod Outside
pub mod Texts
pub mod Ends
pub mod Running
pub mod Headline
pub mod HeadlineLaw
