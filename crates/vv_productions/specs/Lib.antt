pub mod Phrases
pub mod Productions
pub mod Matches
pub mod Readings
pub mod Depths
