pub mod Answers
pub mod Clauses
pub mod InOrder
pub mod Labels
pub mod Suffixes
pub mod Words
