pub mod Room
pub mod Bearing
pub mod Voting
pub mod Holding
