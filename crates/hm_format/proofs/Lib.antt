pub mod Limits
mod Orders
mod Judging
pub mod Accepted
pub mod Apart
mod Rooted
mod SomeOutside
mod SomePlain
mod PlainLaws
mod PlainExits
