pub mod Agreeing
pub mod Calls
pub mod DemandTwo
pub mod Bytes
pub mod Covered
pub mod ByLayout
pub mod Started
