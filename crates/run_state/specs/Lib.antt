pub mod Accesses
pub mod Acts
pub mod Names
pub mod Worlds
