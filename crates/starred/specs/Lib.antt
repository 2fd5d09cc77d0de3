pub mod Strips
pub mod ReducedCount
