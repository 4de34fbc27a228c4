pub mod Objects
pub mod Plain
pub mod Sound
pub mod Spots
