pub mod LabelLaws
pub mod MaskLaws
pub mod NameLaws
pub mod StoreLaws
