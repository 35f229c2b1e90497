pub mod Laws
mod Sets
mod Fronts
mod Arguments
mod PlainForms
mod TermsOnce
mod Shorter
mod Terms
mod Pairs
mod Limits
mod Counts
mod Writing
mod WrittenFronts
mod WritableTerms
mod Written
