pub mod Laws
pub mod Flattened
pub mod Ends
pub mod AndNot
