pub mod Kinds
pub mod Lines
pub mod OneSpelling
pub mod Spelled
