pub mod Opening
pub mod Passing
pub mod Ending
pub mod Showing
pub mod Answering
