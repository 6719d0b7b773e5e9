pub mod DocumentRows
pub mod SetRuns
pub mod StandardRows
pub mod TurnRows
