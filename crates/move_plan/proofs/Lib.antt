pub mod Noting
pub mod Public
pub mod Seeing
pub mod Inside
pub mod Cleared
