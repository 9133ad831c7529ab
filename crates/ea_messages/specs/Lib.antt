pub mod Named
pub mod Said
