pub mod Capped
pub mod Laying
pub mod LongLaying
pub mod Answered
pub mod Shape
pub mod Fitting
pub mod LongFitting
pub mod Either
mod Starting
mod Former
