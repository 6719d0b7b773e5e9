pub mod Dispatch
pub mod Errors
pub mod Functions
pub mod Standing
pub mod Table
