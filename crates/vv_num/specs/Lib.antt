pub mod Values
pub mod Layout
pub mod Results
