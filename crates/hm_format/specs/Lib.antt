pub mod Options
pub mod Formats
pub mod Meanings
pub mod Answers
pub mod Plain
