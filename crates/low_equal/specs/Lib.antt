pub mod Declared
pub mod Erasure
pub mod Laws
pub mod LowEqual
pub mod Observed
pub mod Runs
