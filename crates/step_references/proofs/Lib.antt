mod AtOnce
pub mod Loose
pub mod Plans
pub mod Begun
pub mod Moved
pub mod Kept
pub mod UseLaws
pub mod VariableLaws
pub mod Calls
