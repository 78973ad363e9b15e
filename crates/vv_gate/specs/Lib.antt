pub mod Tree
pub mod View
pub mod Whole
pub mod Conditions
