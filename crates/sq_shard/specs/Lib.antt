pub mod Cuts
pub mod Keys
pub mod Laws
pub mod Reunion
