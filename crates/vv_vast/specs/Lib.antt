pub mod Tree
pub mod Tokens
pub mod Words
pub mod Grammar
pub mod Flat
pub mod Examples
