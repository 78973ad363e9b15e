pub mod Leaves
pub mod Expressions
pub mod Subtypes
pub mod Statements
pub mod Declarations
pub mod Concurrents
pub mod View
