pub mod EveryList
pub mod Report
