pub mod Design
pub mod Plan
