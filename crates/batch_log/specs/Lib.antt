pub mod Handing
pub mod Moments
pub mod Steps
pub mod Tokens
