pub mod Fronts
pub mod Seats
pub mod Serving
pub mod Answers
pub mod Sessions
pub mod Replying
