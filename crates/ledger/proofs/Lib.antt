pub mod Examples
pub mod Turns
pub mod Simulates
pub mod SlotNumbers
pub mod ReplayLaws
pub mod Striking
