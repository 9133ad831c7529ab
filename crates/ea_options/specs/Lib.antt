pub mod Bad
pub mod Building
pub mod Chosen
pub mod Grammar
pub mod Limits
pub mod Meaning
pub mod Refusals
pub mod Values
