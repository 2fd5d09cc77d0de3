pub mod Starts
pub mod Covering
pub mod Figures
pub mod Words
pub mod Check
