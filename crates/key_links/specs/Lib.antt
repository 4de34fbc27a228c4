pub mod ByKind
pub mod Drawn
pub mod Ended
pub mod Fresh
pub mod Opened
pub mod Ringed
pub mod Sealed
