pub mod States
pub mod Framed
pub mod Converting
