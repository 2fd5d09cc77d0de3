pub mod Damaging
pub mod ReadBack
