pub mod Scan
pub mod Digits
pub mod Taken
pub mod InPlace
pub mod Filled
pub mod Puts
pub mod Append
pub mod Decimal
