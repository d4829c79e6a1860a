pub mod Written
pub mod Words
pub mod Digits
pub mod Numbers
pub mod ReadBack
pub mod Examples
pub mod Claims
