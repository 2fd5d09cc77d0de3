pub mod Jobs
pub mod Table
pub mod Slots
pub mod Letters
