pub mod LiteralLaws
pub mod ArrayLaws
