pub mod Filling
pub mod HeldLaws
pub mod KeyLaws
pub mod SlotLaws
pub mod ViewLaws
pub mod SortLaws
