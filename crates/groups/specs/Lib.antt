pub mod Paging
pub mod Helpers
pub mod Borders
pub mod Claims
