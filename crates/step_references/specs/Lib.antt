pub mod Moving
pub mod Keeping
pub mod Variables
