pub mod Contents
pub mod Failures
pub mod Numbered
pub mod Answers
pub mod Room
pub mod Shown
pub mod InMemory
pub mod Seen
