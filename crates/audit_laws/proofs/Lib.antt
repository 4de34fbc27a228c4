pub mod Answered
pub mod Begun
pub mod Fair
pub mod Keyed
pub mod Recorded
pub mod RightKeys
pub mod Shown
pub mod Steps
