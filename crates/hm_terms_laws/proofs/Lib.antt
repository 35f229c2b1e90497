pub mod Bounded
pub mod Beside
pub mod EachChild
pub mod NamedChildren
pub mod Fork
pub mod Items
pub mod Branches
pub mod Copy
pub mod Merge
pub mod Rename
pub mod CallLists
pub mod Closures
mod Callees
pub mod Ranks
pub mod Recursion
