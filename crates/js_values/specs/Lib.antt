pub mod Arrays
pub mod Chains
pub mod Indices
pub mod Numerals
pub mod Objects
pub mod Readings
pub mod Records
pub mod Walks
