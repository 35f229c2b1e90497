mod RootNodes
mod ReadTrees
mod RootLaws
mod ReadOnce
mod Puts
mod Found
mod FineFiles
mod NewFile
mod KeptFiles
mod WritesOnce
mod SomeFile
pub mod Laws
mod WrittenRoots
mod OtherFile
