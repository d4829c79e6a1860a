mod KindAt
pub mod Computed
pub mod Words
