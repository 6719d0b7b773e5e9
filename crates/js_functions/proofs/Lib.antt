pub mod ListLaws
pub mod Loops
pub mod Numbered
pub mod Parts
pub mod Arms
pub mod Expressions
pub mod Statements
