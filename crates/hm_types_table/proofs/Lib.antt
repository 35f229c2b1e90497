pub mod Places
mod Left
mod Outlines
mod Matching
mod Classed
mod ClassEdges
mod NodeGraphs
mod Added
mod SameNodes
pub mod Keys
pub mod Grown
pub mod Sets
pub mod BesideNames
mod Rows
mod ListedPlaces
mod Replaced
pub mod Forms
mod MemberNode
pub mod Shifted
pub mod EqualNodes
