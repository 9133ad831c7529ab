pub mod Copied
pub mod Extras
pub mod Counting
pub mod Sending
pub mod Verdicts
pub mod OneReport
pub mod Agreeing
pub mod RunRoads
