mod Spelled
pub mod SpelledText
