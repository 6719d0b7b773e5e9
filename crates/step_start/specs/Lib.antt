pub mod FirstObjects
pub mod Given
pub mod Ways
pub mod Entered
pub mod Hoisted
pub mod First
