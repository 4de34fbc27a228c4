pub mod Counted
pub mod Dropped
pub mod Fitted
pub mod Lists
pub mod Looked
pub mod Matched
pub mod Ordered
pub mod Restored
