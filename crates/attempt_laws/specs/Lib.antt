pub mod Trials
pub mod Happenings
pub mod Spent
pub mod Scripted
pub mod Calls
pub mod WorkedTrials
