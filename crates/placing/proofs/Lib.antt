pub mod Found
pub mod Counted
