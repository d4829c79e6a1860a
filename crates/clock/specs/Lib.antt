pub mod Clock
pub mod Borders
pub mod Claims
