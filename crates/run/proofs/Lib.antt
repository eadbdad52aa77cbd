pub mod Before
pub mod Count
pub mod Owned
pub mod Steps
pub mod Tried
