pub mod ByWalks
pub mod Closed
pub mod Marking
pub mod Planning
pub mod Reordered
pub mod Sources
