pub mod Example
pub mod Program
pub mod Serving
pub mod Once
pub mod Kept
