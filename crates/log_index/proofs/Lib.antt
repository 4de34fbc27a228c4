pub mod Bodies
pub mod Bytes
pub mod Finding
pub mod Listing
pub mod Made
pub mod Spelled
pub mod Zipped
