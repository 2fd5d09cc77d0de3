pub mod JobWrite
pub mod JobRead
pub mod DemandThree
pub mod ReadBack
pub mod Given
pub mod ListRead
