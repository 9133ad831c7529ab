pub mod Generators
pub mod Ranks
