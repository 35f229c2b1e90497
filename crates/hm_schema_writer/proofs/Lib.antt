pub mod Laws
mod Lists
mod OneLine
mod Broken
mod NodeEntries
mod Written
mod WrittenText
mod WrittenCuts
mod DeclaredNames
mod SortedEntries
mod WrittenShapes
mod WrittenLines
mod WrittenSound
mod Described
mod Readable
mod WrittenReads
mod Rewritten
