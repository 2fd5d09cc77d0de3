pub mod Text
pub mod Nibbles
pub mod Digits
