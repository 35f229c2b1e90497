pub mod Schema
pub mod Members
pub mod Bookmarks
pub mod Nesting
pub mod ItemTrees
pub mod Taken
pub mod Sought
