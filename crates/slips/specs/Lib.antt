pub mod Slips
pub mod Reading
