pub mod Agreement
pub mod Runs
pub mod Meaning
pub mod Examples
