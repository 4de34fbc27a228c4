pub mod Handing
pub mod WorkedReplacements
