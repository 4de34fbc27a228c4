pub mod Any
pub mod Text
