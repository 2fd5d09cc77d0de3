pub mod Checking
pub mod Calls
mod Examples
