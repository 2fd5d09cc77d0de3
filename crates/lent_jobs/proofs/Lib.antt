pub mod TableLaws
pub mod TableBack
pub mod CallLaws
pub mod WithTable
pub mod JobLaws
pub mod Follows
