pub mod Ranks
pub mod Clean
pub mod Sources
pub mod Settles
pub mod Six
pub mod Sound
pub mod Enters
pub mod Instances
