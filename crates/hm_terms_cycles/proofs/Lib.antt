mod Elements
mod Marks
mod Adding
mod Searches
pub mod Naming
mod LensCalls
mod Rows
mod Bodies
mod Defined
mod Leading
mod Earliest
