pub mod NextOnes
pub mod Placing
pub mod Stepping
