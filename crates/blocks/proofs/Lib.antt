pub mod BlockSets
pub mod Numbers
pub mod Marks
pub mod Bursting
