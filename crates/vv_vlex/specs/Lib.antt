pub mod Bytes
pub mod Elements
pub mod Words
pub mod Numbers
pub mod Quoted
pub mod Pieces
pub mod Lexical
pub mod Tokens
