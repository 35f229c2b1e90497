mod Found
pub mod NextTokens
mod QuotedRuns
mod Literal
pub mod NextSymbols
pub mod Attributed
pub mod AttributesRead
pub mod AllAttributes
pub mod Readdressed
mod OtherAddress
mod Digits
pub mod Escaped
pub mod Utf8
pub mod Spelled
pub mod Titles
pub mod Steps
pub mod Known
mod Accepted
mod Accepting
pub mod Unambiguous
pub mod Folders
mod Cases
