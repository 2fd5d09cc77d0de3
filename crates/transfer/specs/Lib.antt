pub mod Bridge
pub mod Steps
pub mod Program
pub mod Example
