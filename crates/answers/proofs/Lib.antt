pub mod Count
pub mod Decide
pub mod Refusals
pub mod Search
pub mod Ranges
pub mod Tables
pub mod Tests
pub mod Front
