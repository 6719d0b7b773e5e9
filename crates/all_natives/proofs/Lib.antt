pub mod OrderLaws
pub mod StepLaws
pub mod TogetherLaws
