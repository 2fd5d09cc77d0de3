pub mod StartLaws
pub mod Covering
mod FiguresLaws
pub mod WordLaws
pub mod CheckLaws
