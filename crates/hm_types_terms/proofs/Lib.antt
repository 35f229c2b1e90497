pub mod TextTypes
mod Remembering
mod Standing
pub mod Growing
mod Telling
mod Pairs
mod Calls
mod Branched
mod Items
mod Named
pub mod Entries
mod Led
mod Possible
mod Each
mod NamedSteps
pub mod Falling
mod Recalled
mod PartLists
mod Contained
mod BodySteps
mod StandsOver
mod AlikeLists
