pub mod Cast
pub mod Fits
pub mod Tables
pub mod Words
pub mod Written
