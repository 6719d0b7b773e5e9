pub mod Cuts
pub mod ListLaws
