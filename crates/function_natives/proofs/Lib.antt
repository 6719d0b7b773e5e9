pub mod ErrorLaws
pub mod FollowLaws
pub mod FunctionLaws
pub mod TableLaws
