pub mod ParsedLaws
pub mod PartLaws
