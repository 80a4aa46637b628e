pub mod Fronts
pub mod KeptPages
pub mod Faces
pub mod Steps
