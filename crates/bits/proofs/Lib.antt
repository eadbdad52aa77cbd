pub mod Below
pub mod Byte
pub mod Stored
