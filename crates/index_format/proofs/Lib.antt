pub mod Lengths
pub mod RowLaws
pub mod StateLaws
pub mod FoundLaws
