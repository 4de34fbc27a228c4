pub mod HeldUpgrade
pub mod Upgrade
