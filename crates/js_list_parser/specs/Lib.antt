pub mod ExpressionParsing
pub mod Laws
pub mod Parsing
pub mod Reading
pub mod Refusals
pub mod StatementParsing
