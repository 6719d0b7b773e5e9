pub mod Pieces
pub mod Named
pub mod Written
pub mod Taken
pub mod FirmLaws
