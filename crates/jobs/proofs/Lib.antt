pub mod SlotLaws
pub mod Entries
pub mod Decisions
pub mod Marks
pub mod Restoring
pub mod Letters
