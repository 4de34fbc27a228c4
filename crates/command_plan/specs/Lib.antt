pub mod NameChanges
pub mod Targeted
