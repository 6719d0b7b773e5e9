pub mod Asked
pub mod Doing
pub mod Requesting
