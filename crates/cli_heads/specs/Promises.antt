pub mod Asking
pub mod Checking
