pub mod Functions
pub mod PlainObjects
pub mod Started
