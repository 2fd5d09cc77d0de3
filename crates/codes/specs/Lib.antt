pub mod Bridge
pub mod Given
pub mod Answer
pub mod DemandTwo
