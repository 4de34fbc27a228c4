pub mod Asked
pub mod Asking
pub mod Checking
pub mod Held
pub mod Promises
pub mod ProofLines
pub mod Statuses
pub mod Testing
