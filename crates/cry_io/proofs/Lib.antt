pub mod OnlyRead
pub mod ToldLemmas
pub mod Happened
pub mod Ties
