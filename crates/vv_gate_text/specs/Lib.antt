pub mod Names
pub mod Made
pub mod Layout
pub mod Text
pub mod Map
pub mod View
