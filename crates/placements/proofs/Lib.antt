pub mod Filling
mod Begun
pub mod Scanning
pub mod Calls
pub mod Placing
pub mod Positions
