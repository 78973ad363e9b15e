pub mod Words
pub mod Lines
pub mod Loads
pub mod Run
pub mod Stops
pub mod Top
