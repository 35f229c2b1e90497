pub mod Lines
pub mod Events
pub mod Calendars
pub mod Scanning
pub mod Lent
