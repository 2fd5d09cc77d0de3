pub mod Laying
pub mod Shape
pub mod Answered
