pub mod GeneratedLines
pub mod GeneratedRuns
pub mod GenerateLemmas
pub mod MakeLemmas
