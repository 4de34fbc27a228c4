pub mod Commands
pub mod Cutting
pub mod Gauging
pub mod Printing
pub mod Reading
pub mod SeenLines
pub mod Tasks
pub mod Seats
