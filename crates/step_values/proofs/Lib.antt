pub mod CameLaws
pub mod ConvertedLaws
pub mod Words
