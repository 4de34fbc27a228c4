pub mod Epochs
pub mod Rising
pub mod Ranks
pub mod Written
pub mod Scripts
pub mod Called
