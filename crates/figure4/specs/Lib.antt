pub mod Figure4
pub mod Undefined
