pub mod Figures
pub mod Former
pub mod Writing
pub mod Ranking
pub mod Reading
pub mod Outcomes
pub mod DemandTwo
