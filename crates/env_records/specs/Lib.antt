pub mod Acts
pub mod Answers
pub mod Formed
pub mod Layouts
pub mod Places
