pub mod Issuing
pub mod Raising
pub mod Parts
pub mod Trying
pub mod Calling
