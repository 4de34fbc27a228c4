pub mod Acting
pub mod Opening
pub mod OwnerSteps
pub mod Published
pub mod Script
pub mod Sessions
pub mod Stopping
pub mod Taking
