pub mod Numbers
pub mod Blocks
