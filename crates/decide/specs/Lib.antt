pub mod Change
pub mod Decided
pub mod Look
pub mod Pulse
pub mod Refusals
pub mod Sound
