pub mod Given
pub mod Found
