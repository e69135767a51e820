mod Refusing
mod Words
pub mod Meaning
