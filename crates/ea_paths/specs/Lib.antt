pub mod Places
pub mod Offers
pub mod Linkable
pub mod Mended
pub mod Stored
pub mod Replayed
pub mod Logs
pub mod Searches
