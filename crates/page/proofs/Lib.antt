pub mod Bounds
pub mod Chips
pub mod Tried
