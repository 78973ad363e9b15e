pub mod Machine
pub mod Jumps
