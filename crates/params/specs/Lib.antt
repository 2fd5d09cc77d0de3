pub mod Bridge
pub mod Answer
pub mod Given
