pub mod ShownProperties
pub mod KnownNames
mod Pieces
mod FullLines
pub mod KeyLines
pub mod OneComponent
pub mod Renewed
pub mod TreeLaws
mod KeptPieces
pub mod RewritingLaws
mod PieceLines
mod BadLines
mod Books
mod ReadOnce
mod SoundLines
mod Rewritings
mod FileLaws
mod SomeFile
pub mod Laws
mod Numbers
mod Opened
mod Passes
pub mod Readings
pub mod Writings
mod WrittenLines
pub mod ContentLines
pub mod Stopped
