pub mod Totals
pub mod Runs
