pub mod Terminals
pub mod Trees
pub mod Table
