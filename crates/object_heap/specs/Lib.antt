pub mod Acts
pub mod Answers
pub mod Formed
pub mod Lengths
pub mod Places
pub mod Tables
