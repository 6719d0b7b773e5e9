pub mod Files
pub mod Sinks
pub mod Memory
pub mod Loading
pub mod Firm
