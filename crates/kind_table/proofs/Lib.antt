pub mod Joining
pub mod ElevenRows
pub mod Walking
