pub mod ByBlock
pub mod Part
pub mod Dealt
pub mod Filling
pub mod Resuming
pub mod Picking
pub mod GoingOn
pub mod ByLayout
