pub mod Serve
