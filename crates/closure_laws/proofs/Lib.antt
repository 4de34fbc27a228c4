pub mod Gaining
pub mod Growing
pub mod OwnNames
pub mod Serving
pub mod Searching
pub mod Kept
