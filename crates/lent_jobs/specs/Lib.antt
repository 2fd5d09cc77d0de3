pub mod Table
pub mod Calls
pub mod Jobs
pub mod Follows
