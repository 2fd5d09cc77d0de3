pub mod Line
pub mod Digits
pub mod Hex
mod Examples
