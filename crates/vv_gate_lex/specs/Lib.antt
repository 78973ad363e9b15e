pub mod Symbols
pub mod Lexical
pub mod Cut
pub mod Words
