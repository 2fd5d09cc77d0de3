pub mod View
pub mod State
pub mod Trace
