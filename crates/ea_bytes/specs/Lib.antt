pub mod Text
pub mod Device
pub mod Opened
pub mod Errors
