mod StateLaws
mod Words
pub mod ConvertingLaws
pub mod FrameLaws
pub mod ValueLists
