pub mod Entries
pub mod Toolbars
pub mod Written
pub mod Next
