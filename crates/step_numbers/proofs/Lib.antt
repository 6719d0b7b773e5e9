pub mod NumberLaws
pub mod EvaluationLaws
pub mod ExactLaws
pub mod GlobalLaws
pub mod AssignLaws
pub mod ChangeLaws
pub mod TriedLaws
