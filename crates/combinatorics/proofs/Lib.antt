pub mod Cases
pub mod Lists
pub mod Stretch
pub mod Members
pub mod StretchLoops
pub mod Majority
pub mod Choose
pub mod Rank
pub mod Bursts
pub mod Cover
pub mod ShortSets
pub mod Loops
pub mod Scan
mod Examples
pub mod Table
