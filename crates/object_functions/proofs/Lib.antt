pub mod AncestorLaws
pub mod DefiningLaws
pub mod IntegrityLaws
pub mod NeedsLaws
pub mod ObjectLaws
pub mod OwnTestLaws
pub mod PropertyLaws
pub mod ReflectionLaws
pub mod RepeatingLaws
pub mod ThisLaws
mod Words
