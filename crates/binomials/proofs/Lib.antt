pub mod Bounds
pub mod Counting
mod Orders
mod Scaling
