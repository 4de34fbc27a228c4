pub mod Hashing
pub mod Proving
pub mod Checking
pub mod Heads
pub mod WorkedRows
pub mod Growing
pub mod Climbing
