pub mod Changes
pub mod Taken
pub mod Numbers
