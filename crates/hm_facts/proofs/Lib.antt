pub mod Options
pub mod Booleans
pub mod Bytes
pub mod Lists
pub mod Orderings
pub mod Results
