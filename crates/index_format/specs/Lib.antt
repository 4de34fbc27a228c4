pub mod Plain
pub mod Spelling
pub mod Sizes
pub mod Writable
pub mod Reading
pub mod Laws
