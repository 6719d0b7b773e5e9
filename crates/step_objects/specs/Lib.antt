pub mod Asking
pub mod Instances
pub mod Literals
pub mod Taking
pub mod Standing
pub mod Operated
pub mod References
