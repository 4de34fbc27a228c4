pub mod Accepted
pub mod Asking
pub mod Fullness
pub mod Granting
pub mod Handed
pub mod Learning
pub mod Viewing
