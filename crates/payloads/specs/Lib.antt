pub mod Payload
pub mod Given
