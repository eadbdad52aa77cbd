pub mod Bounds
pub mod Cuts
pub mod InARow
pub mod OneSpelling
pub mod Tried
