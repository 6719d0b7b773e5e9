pub mod Changes
pub mod Frames
pub mod Held
pub mod Kinds
pub mod Rules
pub mod Standing
pub mod Stops
pub mod Views
