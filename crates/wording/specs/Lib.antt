pub mod Claims
pub mod Words
pub mod Numbers
pub mod Print
pub mod Names
pub mod Replies
pub mod Table
pub mod Examples
