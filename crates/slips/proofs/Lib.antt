pub mod Kept
pub mod Slips
pub mod Reading
mod Examples
