pub mod GiveLaws
pub mod MoreLaws
mod PlainLaws
pub mod ReadLaws
pub mod StartedLaws
