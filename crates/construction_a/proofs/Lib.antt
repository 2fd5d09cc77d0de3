pub mod Figures
pub mod Outcomes
pub mod Ranking
pub mod Rule
pub mod Pattern
pub mod Plan
pub mod Found
pub mod Complete
pub mod Sound
pub mod DemandTwo
mod Misreadings
