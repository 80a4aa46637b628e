pub mod Driving
pub mod Summed
pub mod Stopping
pub mod Failing
pub mod Turns
