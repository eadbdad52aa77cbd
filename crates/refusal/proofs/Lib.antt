pub mod EverySentence
pub mod Numbers
pub mod Tried
