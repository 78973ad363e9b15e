pub mod Cut
pub mod Reserved
