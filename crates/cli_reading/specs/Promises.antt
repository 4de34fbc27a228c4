pub mod Audit
pub mod List
pub mod Open
pub mod Reading
