mod Lists
pub mod Steps
mod Loading
mod Writing
pub mod Rewriting
