pub mod Circuit
pub mod Flat
pub mod Numbered
pub mod Order
pub mod Verilog
pub mod Vhdl
