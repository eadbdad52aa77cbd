pub mod Formed
pub mod Lists
pub mod OneToOne
pub mod Readback
pub mod Records
pub mod Whole
pub mod Made
