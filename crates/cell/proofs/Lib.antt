pub mod Listed
pub mod OfCode
pub mod OfCell
