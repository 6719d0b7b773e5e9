pub mod OperatorLaws
mod LengthLaws
