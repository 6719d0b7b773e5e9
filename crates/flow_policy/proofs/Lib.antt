pub mod Cuts
pub mod Marks
pub mod PolicyLaws
pub mod InputLaws
pub mod ViewLaws
pub mod ListedLaws
pub mod ObservedLaws
mod Examples
