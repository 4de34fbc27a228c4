pub mod InputLemmas
pub mod LineLemmas
pub mod OutsideLemmas
pub mod PrintedLines
pub mod TakenLines
