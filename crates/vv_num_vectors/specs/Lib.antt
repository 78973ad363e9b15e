pub mod Rows
pub mod Operands
pub mod Comparison
pub mod Logic
pub mod Parts
