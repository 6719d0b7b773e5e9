pub mod BooleanLaws
pub mod EndingLaws
pub mod MathLaws
pub mod NumberLaws
mod Words
