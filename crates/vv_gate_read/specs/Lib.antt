pub mod Grammar
pub mod Machine
pub mod Places
pub mod Ends
pub mod Reading
