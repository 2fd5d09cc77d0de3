pub mod Finished
pub mod Served
