pub mod Cutting
pub mod Splits
pub mod OneCut
pub mod OneTree
pub mod OneFlat
pub mod Inverter
mod Lengths
