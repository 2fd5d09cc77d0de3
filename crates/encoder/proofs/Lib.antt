pub mod Spelling
pub mod Room
pub mod Offset
pub mod Outcomes
pub mod MayWrite
