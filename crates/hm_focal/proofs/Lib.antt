pub mod Laws
mod Fronts
mod ReadUpTo
mod Formats
mod Heads
mod Owns
mod Once
mod Placing
mod Called
mod LensNames
mod Taking
mod JudgingOwn
mod Files
mod Rows
mod Formed
mod LineKinds
mod Ordered
