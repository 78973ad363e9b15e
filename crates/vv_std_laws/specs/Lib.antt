pub mod Cells
pub mod Operands
