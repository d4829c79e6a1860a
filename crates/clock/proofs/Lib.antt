pub mod RoundTrip
pub mod Borders
pub mod Claims
