pub mod Payload
pub mod Spelling
mod OneSymbol
