pub mod Noting
pub mod Change
pub mod LookUps
pub mod Fitting
pub mod Seen
pub mod WorkedChanges
pub mod Inner
