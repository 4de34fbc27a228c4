pub mod HeldRun
pub mod Run
