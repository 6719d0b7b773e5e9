pub mod Pieces
pub mod Running
pub mod Sets
pub mod Steps
