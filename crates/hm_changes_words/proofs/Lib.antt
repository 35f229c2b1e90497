pub mod Numbers
pub mod Matches
pub mod Answered
mod Cases
pub mod SixFiles
