pub mod Nodes
pub mod Numbers
pub mod Kinds
pub mod Reading
pub mod Anew
pub mod Seeking
