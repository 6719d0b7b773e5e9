pub mod Accepting
pub mod Laws
pub mod Seen
pub mod Sources
pub mod Tasks
