pub mod Taken
pub mod Rows
pub mod Onward
pub mod Steps
pub mod Cuts
pub mod Joined
pub mod Fed
pub mod Underway
