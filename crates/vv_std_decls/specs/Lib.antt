pub mod Declarations
