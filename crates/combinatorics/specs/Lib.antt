pub mod Lists
pub mod Stretch
pub mod Majority
pub mod Choose
pub mod Rank
pub mod Bursts
pub mod Examples
