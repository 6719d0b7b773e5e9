pub mod Arrays
pub mod Building
