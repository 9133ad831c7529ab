pub mod Copying
pub mod Ordering
pub mod Places
pub mod Renaming
pub mod RenamedLevels
pub mod Walking
pub mod Told
