pub mod Candidate
pub mod Clear
pub mod Order
