pub mod Digits
pub mod Fill
pub mod MayWrite
