pub mod Answers
pub mod EverySentence
pub mod Numbers
pub mod Sentences
