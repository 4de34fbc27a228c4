pub mod Cleared
pub mod Fitting
pub mod Granted
pub mod Matching
pub mod Ranks
pub mod Refused
