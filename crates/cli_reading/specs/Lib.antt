pub mod Changed
pub mod Held
pub mod Journals
pub mod Promises
pub mod Reading
pub mod Statuses
