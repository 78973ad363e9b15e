pub mod Finite
pub mod Sources
pub mod Drivers
