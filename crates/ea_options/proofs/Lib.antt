pub mod Built
pub mod InParts
pub mod Limits
pub mod Named
pub mod Refused
pub mod Reported
pub mod Required
pub mod SimpleApps
