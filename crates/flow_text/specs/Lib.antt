pub mod Hashes
pub mod Memory
pub mod Places
pub mod Text
pub mod Utf8
pub mod Written
