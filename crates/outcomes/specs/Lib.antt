pub mod Outcomes
pub mod PageParts
pub mod Pages
pub mod Parts
