pub mod Held
pub mod Sound
pub mod Walk
