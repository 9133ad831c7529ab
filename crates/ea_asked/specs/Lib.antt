pub mod Asked
pub mod Open
pub mod Seeking
pub mod Stores
pub mod Blank
