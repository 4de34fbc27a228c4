pub mod EndsMapped
pub mod FaultedRuns
pub mod HeldRuns
pub mod LinesRun
pub mod ReadFaults
pub mod RunOpening
pub mod RunVersions
