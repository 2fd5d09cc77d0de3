pub mod Given
pub mod Moves
pub mod ThereAndBack
