pub mod Clauses
pub mod Fronts
pub mod Visiting
