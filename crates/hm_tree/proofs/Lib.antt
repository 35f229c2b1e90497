pub mod Texts
pub mod Sorted
pub mod Under
mod Merged
mod Passed
pub mod Parted
pub mod Depths
mod Deepest
pub mod States
pub mod PathLaws
pub mod Paths
pub mod Steps
pub mod Utf8Names
pub mod DepthLaws
pub mod Extent
pub mod Kept
pub mod Presence
mod LineEnds
pub mod Classed
mod Compared
mod Folded
pub mod CleanText
pub mod NameSets
mod SetEdits
pub mod Ascending
