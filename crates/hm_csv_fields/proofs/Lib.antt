mod Led
mod Utf8Pieces
mod Items
mod Filtered
mod Joined
pub mod Laws
