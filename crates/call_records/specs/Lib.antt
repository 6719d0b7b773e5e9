pub mod Declarations
pub mod Joined
pub mod Named
pub mod Placed
pub mod Planned
