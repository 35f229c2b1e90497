pub mod Contents
pub mod Layouts
pub mod FolderTrees
pub mod Pieces
pub mod Writing
pub mod Among
pub mod Kept
