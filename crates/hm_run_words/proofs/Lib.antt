mod Behind
mod SamePairs
mod Meanings
mod Formed
pub mod Apart
