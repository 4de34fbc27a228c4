pub mod Gen
pub mod Make
