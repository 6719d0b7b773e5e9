pub mod Arrays
pub mod Binding
pub mod Building
pub mod Defining
pub mod Finding
pub mod Lengths
pub mod Making
pub mod Owning
