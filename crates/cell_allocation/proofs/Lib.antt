mod Ascending
mod LastZero
