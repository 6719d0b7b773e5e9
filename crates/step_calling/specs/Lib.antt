pub mod BoundTargets
pub mod Calling
pub mod Reaching
