mod ActLaws
mod BelongLaws
mod BoundLaws
mod AddLaws
mod GivenLaws
mod HeapLaws
mod HeapReadings
mod PlaceLaws
pub mod ReadLaws
mod TableLaws
