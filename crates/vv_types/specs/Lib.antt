pub mod Number
pub mod Prefix
pub mod Subtype
pub mod Codec
