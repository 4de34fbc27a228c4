pub mod Unveiled
