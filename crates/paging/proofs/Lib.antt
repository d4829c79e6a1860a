mod Digits
mod Found
mod Block
