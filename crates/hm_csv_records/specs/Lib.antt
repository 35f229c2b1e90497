pub mod Rows
pub mod Reads
pub mod Written
