mod Finding
mod Steps
mod Words
mod Writes
