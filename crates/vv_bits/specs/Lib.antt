pub mod Nine
pub mod Four
pub mod Resolution
