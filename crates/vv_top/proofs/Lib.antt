pub mod Loaded
pub mod Stopped
