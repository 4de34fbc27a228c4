pub mod Finding
pub mod Members
pub mod Paths
pub mod Reaching
pub mod Versions
