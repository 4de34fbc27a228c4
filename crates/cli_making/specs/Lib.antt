pub mod Figures
pub mod Generating
pub mod Making
pub mod Promises
