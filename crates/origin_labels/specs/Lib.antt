pub mod Label
pub mod Lattice
pub mod Masks
pub mod Names
pub mod Stores
