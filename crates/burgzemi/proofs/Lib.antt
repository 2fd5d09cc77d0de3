pub mod Going
pub mod Known
