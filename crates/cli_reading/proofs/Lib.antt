pub mod PrintedLines
pub mod ReadingLemmas
pub mod Sound
pub mod SoundAudit
pub mod SoundLines
