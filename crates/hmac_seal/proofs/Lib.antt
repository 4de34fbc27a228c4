mod Differences
pub mod HmacLemmas
mod Vectors
