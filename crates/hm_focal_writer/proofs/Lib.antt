mod Writing
mod TermLines
mod WrittenOwn
mod WrittenLines
mod OwnOneLine
mod WrittenParts
mod WrittenFiles
