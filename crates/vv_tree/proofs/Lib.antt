pub mod Concurrents
pub mod Declarations
pub mod Expressions
pub mod Statements
