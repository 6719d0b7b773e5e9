pub mod PassLaws
pub mod VisitLaws
pub mod NamedLaws
