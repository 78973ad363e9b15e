pub mod Tokens
pub mod Marks
pub mod Names
pub mod Cut
pub mod Words
pub mod Lengths
