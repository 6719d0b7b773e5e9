pub mod Answers
pub mod Converted
