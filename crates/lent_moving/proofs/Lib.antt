pub mod MoveLaws
pub mod ThereAndBack
