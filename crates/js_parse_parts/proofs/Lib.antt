pub mod DepthLaws
pub mod LabelLaws
pub mod ListLaws
pub mod Loops
pub mod Made
pub mod NodeLaws
pub mod Parts
pub mod StatementTurns
