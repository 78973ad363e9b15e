pub mod NodeKinds
pub mod Stacks
