pub mod Numbered
pub mod Claims
