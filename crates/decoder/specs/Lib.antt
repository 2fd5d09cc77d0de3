pub mod Answer
pub mod DemandTwo
pub mod Reader
pub mod Exported
