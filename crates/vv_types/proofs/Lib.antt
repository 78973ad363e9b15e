pub mod CodecLaws
pub mod DigitCount
pub mod Extended
pub mod Lengths
pub mod Numbers
pub mod Signed
pub mod SubtypeLaws
pub mod Widths
