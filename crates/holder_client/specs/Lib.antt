pub mod Beside
pub mod Filed
pub mod Keeping
pub mod Lines
pub mod Reads
pub mod Rereading
