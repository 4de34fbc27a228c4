pub mod Publishing
pub mod Staged
pub mod Handed
pub mod Runs
pub mod Serves
pub mod Unmasked
pub mod Generated
pub mod Upgrades
