pub mod Lines
pub mod MadeLaws
