pub mod OneLink
pub mod Pieces
pub mod ReadBack
pub mod Sound
pub mod Once
pub mod Among
mod KeptParts
pub mod KeptContents
pub mod KeptItself
mod Examples
