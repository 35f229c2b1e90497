mod Spelling
pub mod TextUtf8
pub mod Laws
mod Places
mod Parts
mod Behind
mod Listed
mod Deep
mod DeepTrees
mod Forms
mod Making
mod Gathering
mod Putting
mod Reached
mod Whole
mod Utf8
mod Completing
mod Sharing
mod Walking
mod FirstTrees
pub mod SomeReading
