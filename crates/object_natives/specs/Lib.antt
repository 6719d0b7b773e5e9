pub mod Dispatch
pub mod Standing
pub mod Table
