pub mod Bounds
pub mod Closed
pub mod EveryList
pub mod Tried
