pub mod Joining
mod Staying
mod Empty
mod BarLeft
mod Rooms
mod Around
mod Missing
mod FileText
