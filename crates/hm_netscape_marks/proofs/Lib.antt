mod Passing
mod Fronts
mod TidiedTwice
mod TidiedKept
mod BarKept
mod KeptFiles
pub mod Laws
mod Examples
