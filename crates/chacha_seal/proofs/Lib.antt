mod Laying
pub mod SealingLemmas
pub mod SerialLemmas
pub mod StreamLemmas
mod Vectors
