pub mod Exact
pub mod Layouts
pub mod Answered
pub mod Covering
pub mod Counting
