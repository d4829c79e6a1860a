pub mod Examples
pub mod Numbers
