pub mod Accessors
pub mod Elements
pub mod KeyTexts
