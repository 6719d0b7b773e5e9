pub mod Depth
pub mod Longer
pub mod Performing
pub mod Steady
