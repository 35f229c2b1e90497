pub mod Filled
pub mod Seen
pub mod Deep
pub mod Listed
pub mod FirstBad
pub mod EachNode
mod ReadNodes
pub mod OldNodes
mod Spelling
mod Left
mod Sought
pub mod Layouts
pub mod Spelled
pub mod NodesOnce
pub mod Texts
pub mod SomeNodes
pub mod Fine
pub mod FineAnew
pub mod Rewritten
