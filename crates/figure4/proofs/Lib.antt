pub mod Figure4
