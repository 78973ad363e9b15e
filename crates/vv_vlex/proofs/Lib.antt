pub mod Lengths
pub mod Powers
pub mod Scan
pub mod Strings
pub mod Seen
