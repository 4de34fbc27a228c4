pub mod Kinds
pub mod Reached
pub mod Rows
pub mod Sealing
