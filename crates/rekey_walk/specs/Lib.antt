pub mod Dirty
pub mod WorkedMarks
pub mod Strict
