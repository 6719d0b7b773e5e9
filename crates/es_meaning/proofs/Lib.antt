pub mod Link
pub mod RequestLinks
pub mod Longer
