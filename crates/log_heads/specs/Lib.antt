pub mod Published
pub mod Reading
pub mod Proving
