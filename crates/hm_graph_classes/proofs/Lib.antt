mod Places
mod Ties
mod Found
pub mod Grown
pub mod Classes
mod Fresh
mod Indexes
mod Partitions
mod Rounds
mod CalmVertices
mod TakenApart
mod Numbers
