pub mod Buffers
pub mod Cells
pub mod OfC
pub mod ThirdDemand
