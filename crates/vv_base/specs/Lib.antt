pub mod Codes
pub mod InMemory
pub mod OfSystem
pub mod Outside
pub mod Names
