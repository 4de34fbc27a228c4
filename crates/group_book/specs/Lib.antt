pub mod Asked
pub mod Replacing
