pub mod Held
pub mod WorkedCopies
