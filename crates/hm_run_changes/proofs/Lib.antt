mod ChangesOnce
mod Telling
mod Found
mod Meanings
mod Carried
mod Once
mod Relied
