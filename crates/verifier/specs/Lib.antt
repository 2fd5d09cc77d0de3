pub mod Verify
pub mod Answer
pub mod Given
