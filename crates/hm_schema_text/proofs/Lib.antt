pub mod Laws
mod Judging
mod Files
mod WrittenFiles
mod Written
