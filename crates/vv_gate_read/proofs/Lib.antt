pub mod Drives
pub mod Runs
pub mod Advance
pub mod Forward
pub mod Completed
pub mod Order
pub mod Judged
