pub mod Acknowledge
pub mod Along
mod Each
pub mod Judged
pub mod Kept
pub mod Number
pub mod Passed
pub mod Rules
pub mod Soundness
pub mod Tried
