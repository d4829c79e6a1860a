pub mod Standard
pub mod FieldRows
pub mod Turns
pub mod Calls
