pub mod AskedScripts
pub mod SpelledNumbers
