pub mod Posing
pub mod Asking
pub mod Outcomes
pub mod Departing
pub mod There
pub mod Stepping
pub mod Denoting
