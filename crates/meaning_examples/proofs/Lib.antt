pub mod LabelledComputing
pub mod PlainComputing
