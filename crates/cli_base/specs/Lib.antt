pub mod Answering
pub mod Input
pub mod Lines
pub mod Outside
pub mod Promises
pub mod Reading
pub mod Status
pub mod World
