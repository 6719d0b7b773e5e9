pub mod Clauses
pub mod Entries
pub mod Machine
