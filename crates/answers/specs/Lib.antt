pub mod Outcome
pub mod Ranges
pub mod Refusals
pub mod Search
pub mod Claims
