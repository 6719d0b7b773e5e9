pub mod ArgumentRows
pub mod Calling
pub mod Changing
pub mod Declaring
pub mod Making
