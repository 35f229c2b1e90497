pub mod Items
pub mod ItemTrees
pub mod Runs
pub mod Lent
pub mod LentKeys
pub mod Plans
pub mod Taken
