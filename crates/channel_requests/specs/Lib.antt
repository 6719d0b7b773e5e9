pub mod Answers
pub mod Raising
