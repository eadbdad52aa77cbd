pub mod Acknowledge
pub mod Command
pub mod Data
pub mod Fields
pub mod Line
pub mod Reset
pub mod Sound
pub mod Status
