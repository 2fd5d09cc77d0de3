mod Examples
pub mod Cut
pub mod Figures
pub mod Round
pub mod Cells
pub mod Plan
pub mod Digits
pub mod Codec
pub mod Bytes
pub mod Erasures
pub mod Outcomes
pub mod Ranking
pub mod Walk
