pub mod AskLemmas
pub mod CheckLemmas
pub mod NodeLemmas
pub mod OtherLogs
pub mod Telling
pub mod TestLemmas
