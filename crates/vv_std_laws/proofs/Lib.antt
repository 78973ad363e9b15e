pub mod Layers
pub mod Same
pub mod Alike
pub mod Agree
