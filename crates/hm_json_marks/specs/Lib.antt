pub mod Roots
pub mod Files
pub mod Writing
pub mod Reading
pub mod Rewriting
pub mod Seeking
