pub mod Interleaving
pub mod Outcomes
pub mod Lanes
pub mod Transposing
pub mod TileLaws
mod Examples
