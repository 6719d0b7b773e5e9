pub mod ConstructorLaws
pub mod EndLaws
pub mod FollowLaws
pub mod IteratingLaws
pub mod SearchingLaws
pub mod SpliceLaws
pub mod TableLaws
pub mod WholeLaws
