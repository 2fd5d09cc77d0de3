pub mod Outcomes
pub mod Examples
pub mod Pairs
pub mod DemandThree
pub mod RoundTrip
pub mod Calls
