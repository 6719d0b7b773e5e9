pub mod DeclarationLaws
pub mod EntryLaws
pub mod FilledLaws
pub mod JoinedLaws
pub mod Loops
pub mod NameLaws
pub mod PlannedLaws
pub mod VariableLaws
