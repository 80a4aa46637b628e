pub mod WordViews
pub mod Commands
