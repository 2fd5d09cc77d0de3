pub mod Eyes
pub mod Prescriptions
