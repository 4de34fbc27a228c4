pub mod FirstLine
pub mod Promises
pub mod Published
pub mod Running
