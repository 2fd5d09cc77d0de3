pub mod Given
pub mod Looks
pub mod Patterns
pub mod Written
