pub mod List
pub mod Run
