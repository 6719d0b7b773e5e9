pub mod Evaluated
pub mod Assigned
pub mod Named
