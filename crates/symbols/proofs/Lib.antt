-- The modules of laws. Assumes nothing.
mod Bound
pub mod Copied
