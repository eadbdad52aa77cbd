pub mod Answered
pub mod Kept
pub mod Passed
pub mod Rules
pub mod Soundness
