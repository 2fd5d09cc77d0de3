pub mod Session
pub mod Records
pub mod Bridge
