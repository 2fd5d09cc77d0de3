pub mod Figures
pub mod Writing
pub mod Reading
pub mod DemandTwo
pub mod Outcomes
pub mod Ranking
pub mod Examples
