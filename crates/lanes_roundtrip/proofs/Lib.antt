pub mod Filling
pub mod Covering
pub mod Tests
pub mod Chain
mod Examples
