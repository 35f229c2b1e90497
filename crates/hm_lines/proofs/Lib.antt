mod Folds
mod FoldSearch
mod Chunks
mod Found
mod Returns
mod FirstLines
mod Escapes
mod Characters
mod EscapedText
mod LineTexts
mod Colons
mod ContentLines
mod FoldedPieces
mod UnfoldedLines
mod Once
mod SomeFold
pub mod Laws
pub mod LowerCase
