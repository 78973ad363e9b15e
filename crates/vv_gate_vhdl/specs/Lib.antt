pub mod Design
pub mod Entered
pub mod Examples
