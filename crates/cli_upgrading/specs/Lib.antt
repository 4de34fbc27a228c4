pub mod Promises
pub mod Upgrading
