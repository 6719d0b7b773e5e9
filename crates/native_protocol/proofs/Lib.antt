pub mod PieceLaws
pub mod RunningLaws
pub mod Words
