pub mod Pieces
pub mod TotalLines
pub mod Problems
pub mod Following
