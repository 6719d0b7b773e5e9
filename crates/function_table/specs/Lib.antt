pub mod Callees
pub mod Tables
