pub mod Builtin
