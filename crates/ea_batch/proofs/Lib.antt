pub mod Placing
pub mod Piling
pub mod Counts
pub mod Going
pub mod Held
pub mod Sent
pub mod Showing
pub mod Laying
