pub mod Weights
pub mod Leading
pub mod Jumping
