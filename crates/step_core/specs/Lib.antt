pub mod RemainingRun
pub mod Rooms
pub mod Going
pub mod Continuing
pub mod Stepping
pub mod Machines
