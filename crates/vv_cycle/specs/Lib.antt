pub mod Processes
pub mod Turns
pub mod Ranks
pub mod Rows
pub mod Examples
