pub mod Layouts
pub mod Rows
pub mod Bursts
pub mod Claims
pub mod Examples
pub mod Borders
