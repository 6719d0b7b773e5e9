pub mod Pairs
pub mod Compared
