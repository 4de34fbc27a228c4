pub mod Clearing
pub mod FirstVersion
