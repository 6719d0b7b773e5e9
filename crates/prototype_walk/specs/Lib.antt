pub mod Answers
pub mod KeyLists
pub mod Plans
