pub mod Committed
pub mod Handed
pub mod InOrder
pub mod Lists
pub mod Moments
pub mod Staging
pub mod WrittenMoments
