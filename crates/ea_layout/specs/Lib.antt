pub mod Renamed
pub mod Orders
pub mod Copied
pub mod Writing
pub mod Laid
