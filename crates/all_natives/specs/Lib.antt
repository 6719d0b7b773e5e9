pub mod Names
pub mod Together
