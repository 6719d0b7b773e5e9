pub mod CallLaws
pub mod TableLaws
