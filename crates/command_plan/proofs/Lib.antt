pub mod ChangedNames
pub mod Forms
pub mod FoundTargets
pub mod NotesTold
pub mod TextsTold
