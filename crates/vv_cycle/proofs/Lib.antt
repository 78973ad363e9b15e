pub mod Orders
pub mod Bound
pub mod Held
pub mod Runs
pub mod Instances
pub mod Complete
