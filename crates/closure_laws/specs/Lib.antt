pub mod History
pub mod Gains
pub mod Invariants
pub mod Secrecy
pub mod Seen
pub mod WorkedHistories
pub mod Keeping
pub mod Found
