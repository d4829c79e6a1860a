pub mod Channels
pub mod Rows
pub mod Combinations
pub mod Map
pub mod Numbers
pub mod Borders
pub mod Claims
