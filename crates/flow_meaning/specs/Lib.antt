pub mod Erased
pub mod Laws
pub mod Planned
pub mod Requested
pub mod Scopes
pub mod Tracked
pub mod Written
