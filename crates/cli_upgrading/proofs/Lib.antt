pub mod AnyUpgrades
pub mod EndedUpgrades
pub mod HeldUpgrades
pub mod UpgradeCases
pub mod WholeUpgrades
