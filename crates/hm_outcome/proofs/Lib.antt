pub mod Marks
pub mod Forced
pub mod Best
pub mod Settled
pub mod OneSided
pub mod Downward
pub mod Search
pub mod SortedLists
pub mod TopmostLists
mod Examples
pub mod Apart
pub mod Alone
pub mod Gathered
pub mod NameLists
pub mod Existence
