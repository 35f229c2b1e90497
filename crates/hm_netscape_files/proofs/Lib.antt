pub mod HeadPlaces
mod Whites
mod TailsRead
mod Open
mod Outermost
mod Before
mod ShownSoFar
pub mod ListText
pub mod BarParts
pub mod EntryTexts
mod FileTexts
mod WholeFiles
pub mod ReadOnce
mod SomeFolder
pub mod SomeFile
pub mod MemberTrees
pub mod BarsAnew
pub mod WholeAnew
mod AddressTexts
pub mod AnewTexts
pub mod LaidTexts
mod AnewHeads
pub mod AnewParts
pub mod ReadAnew
pub mod WritesOnce
