pub mod Asked
pub mod Judging
pub mod Naming
pub mod PolicyFormed
pub mod Refusing
pub mod Sourced
