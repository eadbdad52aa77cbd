pub mod Order
pub mod Tried
pub mod Turned
