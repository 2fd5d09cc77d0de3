pub mod Walk
pub mod ByBlock
pub mod Fill
pub mod Take
