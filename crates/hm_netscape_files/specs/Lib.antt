pub mod Heads
pub mod Tails
pub mod Shown
pub mod Files
pub mod Opened
pub mod Anew
pub mod Writing
