pub mod Parts
pub mod Places
pub mod Rows
pub mod Tabled
