pub mod Edges
pub mod Lists
pub mod Sets
pub mod Twins
pub mod Lent
