pub mod Ledger
pub mod Calls
pub mod Simulation
pub mod Replay
