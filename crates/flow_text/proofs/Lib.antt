mod HashLaws
pub mod Laws
mod Lines
pub mod Paired
mod Reading
pub mod RoundTrip
