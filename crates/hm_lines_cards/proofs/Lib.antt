mod LentLines
mod Texts
mod Parts
mod PlainBytes
mod Seconds
mod NewLines
mod PropertyNames
pub mod MadeLines
mod Targets
mod KeptTexts
mod AddedTexts
mod ShownCards
mod LinesAgain
mod HiddenLines
mod Keys
mod OwnCards
mod StayingLines
mod KeptLines
pub mod Laws
