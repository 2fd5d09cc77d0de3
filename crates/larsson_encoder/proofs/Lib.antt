mod Spelling
pub mod Covering
