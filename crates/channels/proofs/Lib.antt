pub mod ClauseLaws
pub mod NameLaws
pub mod SetLaws
pub mod Words
