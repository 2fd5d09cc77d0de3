pub mod Filling
pub mod EyeLaws
pub mod Twice
pub mod PrescriptionLaws
pub mod ReadBack
