pub mod Helpers
pub mod Words
