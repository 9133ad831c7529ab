pub mod Frontiers
pub mod Led
pub mod Scans
pub mod Visits
pub mod Seeds
pub mod Guides
pub mod Potentials
