mod Rows
mod Writing
mod Once
mod SomeRecords
mod Texts
mod Filled
mod ReadBack
mod ColumnLaws
pub mod Laws
