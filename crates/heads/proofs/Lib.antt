pub mod Looking
pub mod Listed
pub mod Valued
pub mod Whole
