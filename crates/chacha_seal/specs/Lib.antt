pub mod Keys
pub mod Sealing
pub mod Serials
pub mod Stream
