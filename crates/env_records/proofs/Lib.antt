mod AssignLaws
pub mod LayoutLaws
mod LookupLaws
mod PlaceLaws
mod RecordLaws
