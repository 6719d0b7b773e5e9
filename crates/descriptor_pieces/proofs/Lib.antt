pub mod DefiningLaws
pub mod DescriptorLaws
pub mod FixingLaws
pub mod LoopLaws
pub mod TellingLaws
pub mod Words
