pub mod Lists
pub mod Sources
pub mod Turns
pub mod Ends
pub mod Events
pub mod Numbered
pub mod Few
