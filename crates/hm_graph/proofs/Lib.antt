pub mod Pairs
pub mod Alike
mod Forests
pub mod Search
mod Ends
mod Owed
mod Shortened
pub mod Decided
