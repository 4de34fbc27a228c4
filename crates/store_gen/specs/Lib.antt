pub mod Accepting
pub mod Rule
pub mod Spelling
pub mod Standing
pub mod WorkedLines
