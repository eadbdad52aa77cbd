pub mod Kept
pub mod Past
pub mod Pointer
pub mod Rules
pub mod Soundness
pub mod Tried
