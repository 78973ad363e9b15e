pub mod Derivations
pub mod Depths
pub mod Starts
pub mod Readings
